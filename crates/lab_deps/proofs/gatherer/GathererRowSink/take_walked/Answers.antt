use Rattle.std.proofs.{Common.{◌++◌, subst, append_assoc}, lemmas.Result.{on_ok_weaker}}
use Rattle.lab_deps.{specs.{EdgesByRow.{walked, unlisted}, KindBits.{Tells}, Turns.{items_of}}, proofs.{WalkParts.{walked_by_parts}, ToldMembers.{told_same}}}
use Rattle.lab_deps.proofs.gatherer.GathererRowSink.take_walked.Goals as goal

pub returns : goal.returns
returns c =
    let s = c.args.statement.now in
    let r = c.args.reading in
    let chain = c.args.versions.now in
    let one = c.add_items.new.sink.arrows in
    let two = c.take_unlisted.new.self.arrows in
    let items = items_of r chain.items in
    let changes = walked s (unlisted r) chain in
    on_ok_weaker c.take_unlisted.result
    (λ grows made es so_far fit.
    let listed = subst (λ xs. Tells one.places.items one.width one.cells.items made (es ++ items_of r xs)) c.as_slice.ensures (c.in_ok-add_items.ensures made es (so_far fit)) in
    let all = subst (Tells two.places.items two.width two.cells.items made) (append_assoc es items changes) (grows made (es ++ items) (λ _. listed) fit) in
    told_same two.places.items two.width two.cells.items made es (items ++ changes) (walked s r chain) (walked_by_parts r s chain) all)
    c.take_unlisted.ensures
