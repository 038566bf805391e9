use Rattle.std.proofs.{Common.{◌+◌, ◌≤◌, length, arith}, lemmas.List.{length-take}}
use Rattle.lab_picture.proofs.text.cut.Goals as goal

pub returns-clause-within : goal.returns-clause-within
returns-clause-within c =
    let l = length-take (c.args.width + 1) c.args.text.now in
    let outside : c.last_outside.result ≤ length c.args.text.now = omega (arith, l, c.last_outside.ensures.within) in
    let blank : c.last_blank.result ≤ length c.args.text.now = omega (arith, l, c.last_blank.ensures.within) in
    c.first_place.ensures.within (length c.args.text.now) outside blank (omega (arith, c.requires))
