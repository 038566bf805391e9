use Rattle.std.proofs.Common.{sym, ◌∙◌, subst}
use Rattle.lab_deps.specs.{FaultOrder.{Precedes}, FirstOf.{IsFirstOf, IsLeastRow}, Soundness.{Stands, EndsOther}}
use Rattle.lab_deps.proofs.TestedFaults.{all_end, low_first, end_first}
use Rattle.lab_deps.proofs.check.first_installed.Goals as goal

pub returns-then-not-is_behind_ends : goal.returns-then-not-is_behind_ends
returns-then-not-is_behind_ends c =
    let h = c.args.history.now in
    subst (IsFirstOf (Precedes h) (Stands h)) (sym c.fault_of.ensures) (low_first h c.requires.placed c.args.found c.requires.found (sym c.is_behind_ends.ensures ∙ c.if-not-is_behind_ends.true))

pub returns-in-None : goal.returns-in-None
returns-in-None c =
    let h = c.args.history.now in
    subst (IsFirstOf (Precedes h) (Stands h)) (sym c.fault_of-in-None.ensures) (all_end h c.requires.placed c.args.found c.requires.found (subst (IsLeastRow (EndsOther h)) c.in-None.is c.end_row.ensures))

pub returns-in-Some : goal.returns-in-Some
returns-in-Some c =
    let h = c.args.history.now in
    end_first h c.requires.placed c.args.found c.requires.found (sym c.is_behind_ends.ensures ∙ c.if-not-is_behind_ends.false) c.in-Some.row (subst (IsLeastRow (EndsOther h)) c.in-Some.is c.end_row.ensures)
