use Rattle.std.{proofs.Common.{Some, sym, ap, ◌∙◌, subst}, specs.Option.{option_or}}
use Rattle.lab_deps.specs.{FaultOrder.{Precedes}, FirstOf.{IsFirstOf, IsLeastRow}, Soundness.{Stands, InstallsOther}, declared.fault.LocalFault.TheVariants.{InstallOrder}}
use Rattle.lab_deps.proofs.TestedFaults.{dangling_first}
use Rattle.lab_deps.proofs.check.first_fault.Goals as goal

pub first_installed-requires-clause-placed : goal.first_installed-requires-clause-placed
first_installed-requires-clause-placed c = subst (IsLeastRow (InstallsOther c.args.history.now)) c.in-None.is c.install_row.ensures

pub returns-in-Some : goal.returns-in-Some
returns-in-Some c =
    let h = c.args.history.now in
    subst (IsFirstOf (Precedes h) (Stands h)) (sym (c.or.ensures ∙ ap (λ o. option_or o (Some (InstallOrder c.in-Some.row))) c.fault_of-dangling.ensures))
    (dangling_first h c.first_at_ops-in-Some.result c.in-Some.row c.first_at_ops-in-Some.ensures (subst (IsLeastRow (InstallsOther h)) c.in-Some.is c.install_row.ensures))
