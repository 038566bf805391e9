-- Who keeps reads stable: rules by which a statement waits for who has read what it would write, and rules by which a commit is refused where one that committed since its
-- begin changed what the transaction has read.
use Rattle.std.{proofs.{Common.{◌≡◌, ℕ, ◌≤◌, sym, ap, subst, ◌∙◌, Bool, true, false, cond, List, [], ◌∷◌, ◌++◌, inl, inr, length, append_assoc, arith}, lemmas.Bool.{or_parts, or_cases, false_from_ne_true}}, specs.Prelude.{Some, IsTrue}}
use Rattle.lab_table.specs.{Row.{Row}, Table.{Table, State}, Statement.{matches}, declared.statement.Statement.{Statement}}
use Rattle.lab_history.specs.declared.operation.Op.{Op}
use Rattle.lab_engine.specs.{declared.event.Level.{Level}, RuleTable.{rules_of, keeps_reads}, Log.{Past, Txn, active, commits, sight, has_read}, Rules.{IsLegal, ReadsStand, NoneChangesRead, state_after}, Laws.{Untouched, AllDone, IsDone}, RecordingLaws.{as_of}}
use Rattle.lab_engine.proofs.{RuleTables.{locks_see_now, where_holds}, Begins.{begins_hold}, Commits.{commits_hold}, DoneTransactions.{done_at}, RecordedViews.{sight_is}}
use Rattle.lab_judge.{specs.Stable.{StaysTrue, ReadsStable}, proofs.{Suffixes.{suffix_of_suffix}, CommitPlaces.{more_commits, commits-append}}}

-- ---- by locks
pub locks_keep : (level : Level) (setup : Table) (past : Past) → (rules_of level).read_blocks ≡ true → ReadsStable level setup past
locks_keep level setup past blocks later txn earlier place front op ops ops_are ran =
    let stays : StaysTrue setup op.statement earlier (commits ran.moment) =
    record { since = ran.since; since_is = ran.done_is; untouched = where_holds (rules_of level).read_blocks blocks ran.untouched } in
    subst (λ b. StaysTrue setup op.statement earlier (commits (cond b txn.before ran.moment))) (sym (locks_see_now level blocks)) stays

-- ---- by validation
read_among : (front : List Op) (op : Op) (ops : List Op) (row : Row) (state : State) → has_read (front ++ op ∷ ops) row state ≡ false → matches op.statement row state ≡ false
read_among [] op ops row state none = (or_parts _ _ none).0
read_among (first ∷ front) op ops row state none = read_among front op ops row state (or_parts _ _ none).1

module _ (setup : Table) (txn : Txn) (front : List Op) (op : Op) (ops : List Op) (ops_are : txn.ops ≡ front ++ op ∷ ops) where
  unread : (row : Row) (state : State) → has_read txn.ops row state ≡ false → matches op.statement row state ≡ false
  unread row state none = read_among front op ops row state (ap (λ k. has_read k row state) (sym ops_are) ∙ none)

  -- who changed nothing that a transaction has read changed nothing that one of its statements matches
  unchanged : (since base : List Txn) → ((row : Row) → NoneChangesRead setup txn since base row) → Untouched setup op.statement since base
  unchanged [] base none = tt
  unchanged (by ∷ since) base none = (
    unchanged since base (λ row. (none row).0),
    λ row v wrote.
        let neither = or_parts _ _ (false_from_ne_true _ (λ reads. (none row).1 (v, wrote, reads))) in (unread row _ neither.0, unread row _ neither.1),
  )

upper_part : (setup : Table) (s : Statement) (since more base : List Txn) → Untouched setup s (since ++ more) base → Untouched setup s since (more ++ base)
upper_part setup s [] more base untouched = tt
upper_part setup s (by ∷ since) more base (earlier, clear) = (
  upper_part setup s since more base earlier,
  λ row v wrote. (ap (λ k. matches s row (state_after setup k row)) (sym (append_assoc since more base)) ∙ (clear row v wrote).0, (clear row v wrote).1),
)

-- what stays true from one time on does so from any later time
from_later : (setup : Table) (s : Statement) (earlier base since later : List Txn) → earlier ≡ since ++ later → length base ≤ length later → StaysTrue setup s earlier base
    → StaysTrue setup s earlier later
from_later setup s earlier base since later parts short stays =
    let more = suffix_of_suffix stays.since base since later (sym stays.since_is ∙ parts) short in
    let whole : Untouched setup s (since ++ more.0) base = subst (λ k. Untouched setup s k base) more.2 stays.untouched in
    record { since = since; since_is = parts; untouched = subst (Untouched setup s since) (sym more.1) (upper_part setup s since more.0 base whole) }

-- what a transaction sees had committed at its begin, or later
sees_begin : (sees : Bool) (past : Past) (session : ℕ) (txn : Txn) → active past session ≡ Some txn → length (commits txn.before) ≤ length (commits (cond sees txn.before past))
sees_begin true past session txn is = omega arith
sees_begin false past session txn is =
    let b = begins_hold past session txn is in
    omega (arith, ap (λ k. length (commits k)) b.past_is, commits-append b.since (b.event ∷ txn.before), more_commits b.event txn.before)

pub validation_keeps : (level : Level) (setup : Table) (past : Past) → IsLegal level setup past → (rules_of level).read_clashes ≡ true → ReadsStable level setup past
validation_keeps level setup past legal clashes later txn earlier place front op ops ops_are ran =
    let done : IsDone level setup past earlier txn = done_at level setup past later txn earlier (subst (AllDone level setup past) place (commits_hold level setup past legal).0) in
    let stood : ReadsStand setup earlier txn = where_holds (rules_of level).read_clashes clashes done.stood in
    let seen = sight_is level earlier (as_of txn ops) ran.moment ran.since ran.done_is stood.0 stood.1 in
    let short = sees_begin (rules_of level).sees_begin ran.moment ran.ran_by.event.session (as_of txn ops) ran.ran_by.active_is in
    let stays : StaysTrue setup op.statement earlier (commits txn.before) =
    record { since = stood.0; since_is = stood.1; untouched = unchanged setup txn front op ops ops_are stood.0 (commits txn.before) stood.2 } in
    from_later setup op.statement earlier (commits txn.before) seen.0 (commits (sight level ran.moment (as_of txn ops))) seen.1 short stays

-- ---- so where rules keep reads they stay true
pub reads_stable : (level : Level) (setup : Table) (past : Past) → IsLegal level setup past → IsTrue (keeps_reads (rules_of level)) → ReadsStable level setup past
reads_stable level setup past legal kept = elim (or_cases _ _ kept) [
  | inl blocks ↦ locks_keep level setup past blocks
  | inr clashes ↦ validation_keeps level setup past legal clashes
]
