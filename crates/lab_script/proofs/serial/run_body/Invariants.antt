use Rattle.lab_script.proofs.Common.{◌≡◌, drop, ended_by}
use Rattle.lab_script.proofs.serial.run_body.Given as goal

abbrev pub invariant-loop-line : goal.invariant-loop-line
invariant-loop-line l = ended_by l.session l.output l.table (drop l.line-index l.lines) ≡ ended_by l.session l.fn.output l.fn.table l.lines
