-- The effect of a statement on the rows that a session sees.
use Rattle.std.specs.Prelude.{◌≡◌, false, IsTrue}
use Rattle.lab_table.specs.Row.{Row}
use Rattle.lab_table.specs.Statement.{fails}
use Rattle.lab_table.specs.declared.statement.Statement.{Statement}
use Rattle.lab_engine.specs.declared.effect.EffectFault.{EffectFault}
use Rattle.lab_engine.specs.declared.effect.EffectFault.TheVariants.{NoMemory, DuplicateKey, OutOfRange}
use Rattle.lab_engine.specs.declared.event.EngineFault.{EngineFault}
use Rattle.lab_engine.specs.declared.event.EngineFault.TheVariants as refusal
use Rattle.lab_engine.specs.declared.event.Outcome.{Outcome}
use Rattle.lab_engine.specs.declared.event.Outcome.TheVariants as outcome
use Rattle.lab_engine.specs.Log.{Version}
use Rattle.lab_engine.specs.Rules.{IsBelow, IsEffectOn, IsInsertOf, IsUpdate}

-- why a statement doesn't run on rows seen at these versions; memory may be wanting at any time
abbrev pub IsEffectFault : (Row → Version) → Statement → EffectFault → Type 0
IsEffectFault sees s NoMemory = Unit {0}
IsEffectFault sees s (DuplicateKey row) = IsInsertOf row s × IsTrue (fails s row (sees row).state)
IsEffectFault sees s (OutOfRange row) = IsUpdate s × IsTrue (fails s row (sees row).state)
    × ((other : Row) → IsBelow other row → fails s other (sees other).state ≡ false)

-- a refusal of a statement that nobody blocks is true of the rows seen at these versions
abbrev pub IsRefusalOn : (Row → Version) → Statement → EngineFault → Type 0
IsRefusalOn sees s (refusal.DuplicateKey row) = IsEffectFault sees s (DuplicateKey row)
IsRefusalOn sees s (refusal.OutOfRange row) = IsEffectFault sees s (OutOfRange row)
IsRefusalOn sees s other = ⊥

-- what a statement that nobody blocks answers: its effect, or a refusal
abbrev pub IsResultOn : (Row → Version) → Statement → Outcome → Type 0
IsResultOn sees s (outcome.Rows view rows writes) = IsEffectOn sees s view rows writes
IsResultOn sees s (outcome.Refused fault) = IsRefusalOn sees s fault
IsResultOn sees s other = ⊥
