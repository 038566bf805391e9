use Rattle.std.proofs.Common.{◌≡◌, ◌++◌, drop, flat_map}
use Rattle.lab_session.specs.LogText.{AllPrint, event_text}
use Rattle.lab_session.proofs.log_text.print_log.Given as goal

abbrev pub invariant-loop-event : goal.invariant-loop-event
invariant-loop-event l = record {
  text : l.text.items ++ flat_map event_text (drop l.event-index l.log) ≡ l.initial.text.items ++ flat_map event_text l.log;
  prints : AllPrint (drop l.event-index l.log) → AllPrint l.log;
}
