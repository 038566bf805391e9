-- The installed versions of a row, newest first.
use Rattle.std.specs.Prelude.{ℕ, nat_lt, cond, Option, Some, None, unwrap_or, List, [], ◌∷◌, length, reverse}
use Rattle.std.specs.Prelude as list
use Rattle.lab_table.specs.Row.{Row}
use Rattle.lab_engine.specs.declared.row_state.Installed.{Installed}
use Rattle.lab_engine.specs.declared.event.Outcome.{Outcome}
use Rattle.lab_engine.specs.declared.event.Outcome.TheVariants.{Committed}
use Rattle.lab_engine.specs.Log.{Past, Version, Txn, active, version_by}

-- a chain with one version more, if there is one, of this transaction and with so many events before its commit
abbrev pub longer : ℕ → ℕ → Option Version → List Installed → List Installed
longer by place None chain = chain
longer by place (Some v) chain = record { version = v; by = by; place = place } ∷ chain

-- a row's chain after an outcome with so many events before it, where the session had this transaction active
abbrev pub chain_after : Outcome → Option Txn → ℕ → Row → List Installed → List Installed
chain_after Committed (Some t) place row chain = longer t.no place (version_by t row) chain
chain_after other txn place row chain = chain

-- the installed versions of a row
abbrev pub chain : Past → Row → List Installed
chain [] row = []
chain (event ∷ past) row = chain_after event.outcome (active past event.session) (length past) row (chain past row)

-- who was the first to install a version from a place on
abbrev pub first_since : ℕ → List Installed → Option ℕ
first_since place [] = None
first_since place (i ∷ older) = cond (nat_lt i.place place) None (Some (unwrap_or (first_since place older) i.by))

-- the last version that was installed before a place
abbrev pub last_before : ℕ → List Installed → Option Version
last_before place [] = None
last_before place (i ∷ older) = cond (nat_lt i.place place) (Some i.version) (last_before place older)

-- who installed them, the first to do so first
abbrev pub installed_by : List Installed → List ℕ
installed_by chain = reverse (list.map (λ i. i.by) chain)
