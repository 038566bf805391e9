-- What a log determines about its sessions and rows: active and committed transactions, versions, and what a
-- transaction sees. A log is read backwards, from its newest event.
--
-- Origin: two-phase locking and versions: Bernstein, Hadzilacos and Goodman, "Concurrency Control and Recovery in
-- Database Systems" (1987); the log is this project's profile.
use Rattle.std.specs.Option.{option_or}
use Rattle.std.specs.Prelude.{ℕ, ◌+◌, ◌==◌, Bool, true, false, ◌||◌, cond, Option, Some, None, option_map, is_some, unwrap_or, List, [], ◌∷◌, length, filter, reverse}
use Rattle.std.specs.Prelude as list
use Rattle.std.specs.FinMap as map
use Rattle.lab_table.specs.Row.{Row}
use Rattle.lab_table.specs.Table.{Table, State, Rows, Writes}
use Rattle.lab_table.specs.Statement.{matches}
use Rattle.lab_table.specs.declared.statement.Statement.{Statement}
use Rattle.lab_table.specs.declared.statement.Command.{Command}
use Rattle.lab_table.specs.declared.statement.Command.TheVariants.{Run}
use Rattle.lab_history.specs.declared.operation.Op.{Op}
use Rattle.lab_history.specs.declared.operation.VersionName.TheVariants.{Initial, Of}
use Rattle.lab_history.specs.VersionName.{View}
use Rattle.lab_engine.specs.declared.version.Version.{Version as Named}
use Rattle.lab_engine.specs.declared.event.Level.{Level}
use Rattle.lab_engine.specs.declared.event.EngineFault.{EngineFault}
use Rattle.lab_engine.specs.declared.event.EngineFault.TheVariants.{NoTransaction, AlreadyBegun, Busy}
use Rattle.lab_engine.specs.declared.event.Outcome.{Outcome}
use Rattle.lab_engine.specs.declared.event.Outcome.TheVariants.{Begun, Rows as Listed, Committed, Waits, Refused}
use Rattle.lab_engine.specs.declared.event.LogEvent.{LogEvent}
use Rattle.lab_engine.specs.RuleTable.{rules_of}

-- the events before a moment, the newest first
abbrev pub Past : Type 0
Past = List LogEvent

-- the past after a log
abbrev pub past_of : List LogEvent → Past
past_of log = reverse log

-- a version of a row: its name and the row's state in it
abbrev pub Version : Type 0
Version = Named

-- a transaction: its number, its operations, the newest first, and the past of its begin
pub record Txn : Type 0 where
  pub no : ℕ
  pub ops : List Op
  pub before : Past

-- a transaction's operations after a command that listed rows
abbrev pub ops_after : Command → View → Rows → Writes → List Op → List Op
ops_after (Run s) view rows writes ops = record { statement = s; view = view; rows = rows; writes = writes } ∷ ops
ops_after other view rows writes ops = ops

-- whether a refusal ends the transaction
abbrev pub is_fatal : EngineFault → Bool
is_fatal NoTransaction = false
is_fatal AlreadyBegun = false
is_fatal Busy = false
is_fatal other = true

-- the active transaction of a session after one of its events
abbrev pub active_after : Command → Outcome → Past → Option Txn → Option Txn
active_after command (Begun n) past txn = Some (record { no = n; ops = []; before = past })
active_after command (Listed view rows writes) past txn = option_map (λ t. record { no = t.no; ops = ops_after command view rows writes t.ops; before = t.before }) txn
active_after command (Waits on) past txn = txn
active_after command (Refused fault) past txn = cond (is_fatal fault) None txn
active_after command other past txn = None

-- the active transaction of a session: from its begin to its commit, abort or fatal refusal
abbrev pub active : Past → ℕ → Option Txn
active [] session = None
active (event ∷ past) session = cond (event.session == session) (active_after event.command event.outcome past (active past session)) (active past session)

-- what an outcome adds to the committed transactions, where the session had this transaction active
abbrev pub commits_after : Outcome → Option Txn → List Txn → List Txn
commits_after Committed (Some t) txns = t ∷ txns
commits_after other txn txns = txns

-- the committed transactions, the last to commit first
abbrev pub commits : Past → List Txn
commits [] = []
commits (event ∷ past) = commits_after event.outcome (active past event.session) (commits past)

-- the version of a row that an operation wrote, if it did, else another
abbrev pub version_or : ℕ → ℕ → Option State → Option Version → Option Version
version_or number op None other = other
version_or number op (Some state) other = Some (record { name = Of number op; state = state })

-- the last version of a row that the operations of a transaction wrote
abbrev pub last_version : ℕ → List Op → Row → Option Version
last_version number [] row = None
last_version number (op ∷ ops) row = version_or number (length ops + 1) (map.get op.writes row) (last_version number ops row)

-- a transaction's last version of a row; pending while it is active, installed once it has committed
abbrev pub version_by : Txn → Row → Option Version
version_by txn row = last_version txn.no txn.ops row

-- the transactions, the last to commit first, that wrote a row
abbrev pub writers : Row → List Txn → List Txn
writers row txns = filter (λ txn. is_some (version_by txn row)) txns

-- the numbers of transactions of which the last to commit stands first, the first to commit first
abbrev pub numbers : List Txn → List ℕ
numbers txns = reverse (list.map (λ txn. txn.no) txns)

-- a row's installed list: the numbers of the committed transactions that wrote it, in order of their commits
abbrev pub installers : Past → Row → List ℕ
installers past row = numbers (writers row (commits past))

-- the last installed version of a row, of transactions of which the last to commit stands first
abbrev pub last_installed : List Txn → Row → Option Version
last_installed [] row = None
last_installed (txn ∷ txns) row = option_or (version_by txn row) (last_installed txns row)

-- a row as the setup has it
abbrev pub initial_version : Table → Row → Version
initial_version setup row = record { name = Initial; state = map.get setup row }

-- the committed version of a row: the last installed, else as the setup has it
abbrev pub committed_version : Table → Past → Row → Version
committed_version setup past row = unwrap_or (last_installed (commits past) row) (initial_version setup row)

-- whether a transaction sees the commits as of its begin, and not as of now
abbrev pub sees_as_of_begin : Level → Bool
sees_as_of_begin level = (rules_of level).sees_begin

-- the past whose commits a transaction sees: as of now, or as of its begin
abbrev pub sight : Level → Past → Txn → Past
sight level past txn = cond (sees_as_of_begin level) txn.before past

-- the version of a row that a transaction sees: its own last, else the committed one
abbrev pub seen : Level → Table → Past → Txn → Row → Version
seen level setup past txn row = unwrap_or (version_by txn row) (committed_version setup (sight level past txn) row)

-- what a command that waits asks for
abbrev pub asked : Command → Option Statement
asked (Run s) = Some s
asked other = None

-- the statement that a session waits with after one of its events
abbrev pub waiting_after : Command → Outcome → Option Statement → Option Statement
waiting_after command (Waits on) before = asked command
waiting_after command (Refused Busy) before = before
waiting_after command other before = None

-- the statement that a session waits with: that of its last event, Busy aside, if its outcome is Waits
abbrev pub waiting : Past → ℕ → Option Statement
waiting [] session = None
waiting (event ∷ past) session = cond (event.session == session) (waiting_after event.command event.outcome (waiting past session)) (waiting past session)

-- how many transactions have begun, after one more outcome
abbrev pub begun_after : Outcome → ℕ → ℕ
begun_after (Begun n) before = before + 1
begun_after other before = before

-- how many transactions have begun
abbrev pub begun : Past → ℕ
begun [] = 0
begun (event ∷ past) = begun_after event.outcome (begun past)

-- whether the statement of one of the operations matches a row in this state
abbrev pub has_read : List Op → Row → State → Bool
has_read [] row state = false
has_read (op ∷ ops) row state = matches op.statement row state || has_read ops row state
