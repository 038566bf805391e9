use Rattle.lab_script.proofs.{Common.{◌≡◌, ◌+◌, ◌≤◌, length, unprintable, sessions_in, transcript}, RemainingTranscript.{output_by}}
use Rattle.lab_script.proofs.serial.run_serial.Given as goal

abbrev pub invariant-loop-line : goal.invariant-loop-line
invariant-loop-line l = record {
  output : output_by l.number l.output l.table (sessions_in l.inside) l.rest ≡ record { text = transcript l.script; unprintable = unprintable l.script };
  few : l.number + length l.rest ≤ length l.script.lines;
}

abbrev pub decreases-loop-line : goal.decreases-loop-line
decreases-loop-line l = length l.rest
