use Rattle.std.proofs.Common.{arith, sym, length, ◌<◌, ◌≤◌}
use Rattle.std.proofs.lemmas.List.{length-take-le}
use Rattle.lab_chain.proofs.shown.put_cut.Goals as goal

pub slice_bounds-front-end : goal.slice_bounds-front-end
slice_bounds-front-end c =
    let text = c.args.text.now in
    let longer : 200 < length text = c.if-text-gt-MAX_SHOWN.true in
    let inside : 200 ≤ length text = omega arith in
    sym (length-take-le 200 text inside)
