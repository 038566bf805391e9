-- Tests of one event.
use Rattle.std.specs.Prelude.{Bool, true, false}
use Rattle.lab_engine.specs.declared.event.Outcome.{Outcome}
use Rattle.lab_engine.specs.declared.event.Outcome.TheVariants.{Committed, Aborted, Refused}
use Rattle.lab_engine.specs.declared.event.EngineFault.{EngineFault}
use Rattle.lab_engine.specs.declared.event.EngineFault.TheVariants.{WriteConflict, Busy, ReadConflict}
use Rattle.lab_engine.specs.Log.{is_fatal}

-- whether a refusal is that of a commit that conflicts
abbrev pub is_conflict : EngineFault → Bool
is_conflict (WriteConflict row by) = true
is_conflict (ReadConflict row by) = true
is_conflict other = false

-- whether an outcome is Busy
abbrev pub busy : Outcome → Bool
busy (Refused Busy) = true
busy other = false

-- whether an outcome is that of a commit or an abort of an active transaction, which it ends
abbrev pub is_ending : Outcome → Bool
is_ending Committed = true
is_ending Aborted = true
is_ending (Refused fault) = is_conflict fault
is_ending other = false

-- whether an outcome ends the active transaction of its session: a commit, an abort or a fatal refusal
abbrev pub is_over : Outcome → Bool
is_over Committed = true
is_over Aborted = true
is_over (Refused fault) = is_fatal fault
is_over other = false
