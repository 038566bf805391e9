use Rattle.lab_script.proofs.{Common.{◌≡◌, tables_so_far}, FirstFault.{IsReadTo}}
use Rattle.lab_script.proofs.parse.parse_script.Given as goal

abbrev pub invariant-loop-line : goal.invariant-loop-line
invariant-loop-line l = IsReadTo l.fn.text l.number l.line-iterator l.script × (l.tables.names ≡ tables_so_far l.script)
