use Rattle.std.{proofs.Common.{◌∙◌, subst}, specs.Prelude.{IfSome}}
use Rattle.lab_deps.specs.Turns.{AreMarks}
use Rattle.lab_deps.proofs.turns.Turns.marks_for.Goals as goal

pub returns-then-place-eq0 : goal.returns-then-place-eq0
returns-then-place-eq0 c are =
    let t = c.args.self.now in
    let row = subst (λ o. IfSome o (λ row. AreMarks t.installers.items t.most row.items)) c.in-Some.is are in
    (c.if-place-eq0.true, c.as_slice.ensures.value ∙ row)
