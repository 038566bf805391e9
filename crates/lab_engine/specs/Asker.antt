-- A session with an active transaction, and what it requests.
use Rattle.std.specs.Prelude.{◌≡◌, ◌↔◌, ℕ, Some, unwrap_or, length, IsTrue}
use Rattle.lab_table.specs.Row.{Row}
use Rattle.lab_engine.specs.declared.event.Level.{Level}
use Rattle.lab_engine.specs.declared.asker.Asker.{Asker}
use Rattle.lab_engine.specs.Log.{Past, Txn, Version, active, sight, initial_version}
pub use Rattle.lab_engine.specs.Log.{sees_as_of_begin}
use Rattle.lab_engine.specs.Overlay.{seen_over}
use Rattle.lab_engine.specs.Others.{IsOther}
use Rattle.lab_engine.specs.SessionBits.{has}
use Rattle.lab_engine.specs.Situation.{Describes, IsRunning}

-- the version of a row that a session's transaction sees: its own, else the last installed one that it sees, else the setup's
abbrev pub seen_in : Asker → Row → Version
seen_in asker row = unwrap_or (seen_over asker.situation.now.rows asker.session asker.sees_before row) (initial_version asker.setup.now row)

-- a session asks after a log, with this active transaction at a level
pub record IsAsker (level : Level) (past : Past) (txn : Txn) (asker : Asker) : Type 0 where
  pub situation : Describes level past asker.situation.now
  pub active : active past asker.session ≡ Some txn
  pub running : IsRunning level txn asker.running.now
  pub sees_before : asker.sees_before ≡ length (sight level past txn)

-- a set has the other sessions of whose active transaction this holds
abbrev pub AreOthers : Past → Asker → (Txn → Type 0) → ℕ → Type 0
AreOthers past asker holds set = (other : ℕ) → IsTrue (has set other) ↔ IsOther past asker.session other holds
