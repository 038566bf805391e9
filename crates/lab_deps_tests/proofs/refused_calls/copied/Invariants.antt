use Rattle.std.proofs.Common.{◌≡◌, take}
use Rattle.lab_deps_tests.proofs.refused_calls.copied.Given as goal

-- the events so far
abbrev pub invariant-loop-event : goal.invariant-loop-event
invariant-loop-event l = l.events.items ≡ take l.event-index l.log
