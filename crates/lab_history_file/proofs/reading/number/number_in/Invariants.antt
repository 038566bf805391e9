use Rattle.std.proofs.Common.{◌≡◌, ◌≤◌, drop}
use Rattle.lab_history_file.specs.Numbers.{digits_on}
use Rattle.lab_history_file.proofs.reading.number.number_in.Given as goal

abbrev pub invariant-loop-i : goal.invariant-loop-i
invariant-loop-i l = (digits_on l.number (drop l.i l.digits) ≡ digits_on 0 l.digits) × (l.number ≤ 10000000009)
