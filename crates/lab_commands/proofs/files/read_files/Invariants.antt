use Rattle.std.proofs.Common.{◌≡◌, length}
use Rattle.lab_commands.proofs.files.read_files.Given as goal

abbrev pub invariant-loop-name : goal.invariant-loop-name
invariant-loop-name g l = (length l.files.items ≡ l.name-index) × (length l.are_read.items ≡ l.name-index)
