use Rattle.std.proofs.Common.{◌≡◌, ◌++◌, drop}
use Rattle.lab_commands.specs.CommittedRows.{remarked_log}
use Rattle.lab_commands.proofs.remarked_log.put_remarked_log.Given as goal

abbrev pub invariant-loop-event : goal.invariant-loop-event
invariant-loop-event l = l.out.items ++ remarked_log l.history l.standing (drop l.event-index l.log) ≡ l.initial.out.items ++ remarked_log l.history l.initial.standing l.log
