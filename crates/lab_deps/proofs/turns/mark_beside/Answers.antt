use Rattle.std.proofs.{Common.{◌≡◌, ◌<◌, ◌+◌, ◌*◌, length, get_or, take, drop, sym, ap, ◌∙◌, subst}, lemmas.List.{take_min, drop_min}}
use Rattle.lab_deps.{specs.Marks.{marked}, proofs.MarkedCells.{each_taken, each_dropped, length_marked}}
use Rattle.lab_deps.proofs.turns.mark_beside.Goals as goal

pub mark_each-requires : goal.mark_each-requires
mark_each-requires c k =
    let ns = c.args.installers.now in
    let place = c.args.place in
    let front = c.split_at.ensures.front ∙ (ap (λ n. take n ns) c.min.ensures ∙ take_min place ns) in
    subst (λ ms. c.args.reader + get_or ms k 0 * c.args.width < length c.args.cells.now) (sym front) (each_taken (λ n. c.args.reader + n * c.args.width < length c.args.cells.now) ns c.requires.column place k)

pub mark_each-requires-2 : goal.mark_each-requires-2
mark_each-requires-2 c k =
    let ns = c.args.installers.now in
    let place = c.args.place in
    let first = c.args.reader * c.args.width in
    let front = c.split_at.ensures.front ∙ (ap (λ n. take n ns) c.min.ensures ∙ take_min place ns) in
    let back = c.split_at.ensures.back ∙ (ap (λ n. drop n ns) c.min.ensures ∙ drop_min place ns) in
    let marks : c.mark_each.new.cells ≡ marked c.args.reader c.args.width 4 (take place ns) c.args.cells.now = c.mark_each.ensures ∙ ap (λ ms. marked c.args.reader c.args.width 4 ms c.args.cells.now) front in
    let same : length c.mark_each.new.cells ≡ length c.args.cells.now = ap length marks ∙ length_marked (take place ns) c.args.cells.now c.args.reader c.args.width 4 in
    subst (λ ms. first + get_or ms k 0 * 1 < length c.mark_each.new.cells) (sym back)
    (subst (λ l. first + get_or (drop place ns) k 0 * 1 < l) (sym same) (each_dropped (λ n. first + n * 1 < length c.args.cells.now) ns c.requires.row place k))

pub returns : goal.returns
returns c =
    let ns = c.args.installers.now in
    let place = c.args.place in
    let w = c.args.width in
    let front = c.split_at.ensures.front ∙ (ap (λ n. take n ns) c.min.ensures ∙ take_min place ns) in
    let back = c.split_at.ensures.back ∙ (ap (λ n. drop n ns) c.min.ensures ∙ drop_min place ns) in
    c.mark_each-2.ensures ∙ (ap (λ ms. marked (c.args.reader * w) 1 16 ms c.mark_each.new.cells) back
    ∙ ap (marked (c.args.reader * w) 1 16 (drop place ns)) (c.mark_each.ensures ∙ ap (λ ms. marked c.args.reader w 4 ms c.args.cells.now) front))
