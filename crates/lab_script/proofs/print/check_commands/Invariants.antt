use Rattle.lab_script.proofs.Common.{drop, AllPrint}
use Rattle.lab_script.proofs.print.check_commands.Given as goal

abbrev pub invariant-loop-line : goal.invariant-loop-line
invariant-loop-line l = AllPrint (drop l.line-index l.line-items) → AllPrint l.line-items
