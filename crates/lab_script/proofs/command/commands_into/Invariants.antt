use Rattle.lab_script.proofs.Common.{◌≡◌, ℕ, suc, ◌<◌, [], length, repeated_read, some_left, step_read}
use Rattle.lab_script.proofs.command.commands_into.Given as goal

-- what is left, behind the commands so far, gives the whole
abbrev pub invariant-loop-parser : goal.invariant-loop-parser
invariant-loop-parser l =
    (k : ℕ) × (length l.parser < k) × (repeated_read k (step_read l.room) some_left l.commands.items l.parser ≡ repeated_read (suc (length l.fn.parser)) (step_read l.room) some_left [] l.fn.parser)

abbrev pub decreases-loop-parser : goal.decreases-loop-parser
decreases-loop-parser l = length l.parser
