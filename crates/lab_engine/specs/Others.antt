-- The other active transactions.
use Rattle.std.specs.Prelude.{◌≡◌, ◌≢◌, ℕ, Some}
use Rattle.lab_engine.specs.Log.{Past, Txn, active}

-- another session has an active transaction of which this holds
abbrev pub IsOther : Past → ℕ → ℕ → (Txn → Type 0) → Type 0
IsOther past session other holds = (holder : Txn) × (session ≢ other) × (active past other ≡ Some holder) × holds holder
