use Rattle.lab_script.proofs.Common.{◌≡◌, extended}
use Rattle.lab_script.proofs.script.Script.take.Given as goal

abbrev pub invariant-loop-command : goal.invariant-loop-command
invariant-loop-command l = l.self ≡ extended l.initial.self l.session l.text_line l.yielded
