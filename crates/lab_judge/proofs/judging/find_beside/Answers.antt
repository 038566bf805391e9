use Rattle.std.proofs.{Common.{subst}, lemmas.Result.{IfOk-weaker}}
use Rattle.lab_judge.{specs.Due.{IsDueSerial}, proofs.Excludes.{no_closed_walk}}
use Rattle.lab_judge.proofs.judging.find_beside.Goals as goal

pub returns-in-Yes : goal.returns-in-Yes
returns-in-Yes c = λ h sound of due.
    c.find_none.ensures h sound (λ es walk. no_closed_walk h c.in-Yes.field-0 es (subst (IsDueSerial h) c.in-Yes.is due).1 walk)

pub returns-in_default : goal.returns-in_default
returns-in_default c = IfOk-weaker c.find_walks.result _ _ (λ found judges h sound of due. judges h sound of) c.find_walks.ensures
