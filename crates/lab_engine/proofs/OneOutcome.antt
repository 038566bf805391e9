-- After a log there is one answer to a command, and one event that a step or a retry appends.
use Rattle.lab_engine.{proofs.{Common.{Answers, ap, arith, BlockedBy, both_ways, Busy, ComesFirst, Command, Commit, commits, conflict_fault, ConflictKind, Conflicts, ConflictsBy, Deadlock, DuplicateKey, Equal, fails, Greater, inl, inr, is_some, IsBelow, IsChain, IsEffect, IsFirstConflict, IsFree, IsInsertOf, IsSome, IsTrue, IsUpdate, Less, Level, List, Listed, LogEvent, MayCommit, None, none_some, Option, option_map, Ordering, Outcome, OutOfRange, Past, past_of, Permitted, Read, refl, Refused, Row, row_cmp, Rows, rows_apart, rules_of, Run, same_rows, same_Some, seen, Some, some_is, Statement, subst, sym, Table, turned, Txn, update_inserts_none, View, waiting, Waits, Write, writers, Writes, ℕ, ℤ, [], ◌++◌, ◌∙◌, ◌∷◌, ◌≡◌, ◌≢◌, ◌⊎◌}, ReadConflicts.{one_read_conflict, stands_or_conflicts}, RuleTables.{if_holds, if_set, where_holds}, Circles.{one_least_circle}, RisingLists.{before_end, same_pairs}, TakenRows.{none_taken}, AnswerKinds.{answer_known, FreeAnswer, HeldAnswer, IdleAnswer, IsFirstFailing, KnownAnswer, TxnAnswer}}, specs.Answered.{RetriesTo, StepsTo}}
use Rattle.std.proofs.lemmas.List.Kept.{AllPairs-from_increasing}

-- of the rows that have something there is one least
one_least_row : (P : Row → Type 0) (row other : Row) → P row → P other → ((k : Row) → IsBelow k row → P k → ⊥) → ((k : Row) → IsBelow k other → P k → ⊥) → row ≡ other
one_least_row P row other here there least lesser = at (row_cmp row other) refl
  where
    at : (o : Ordering) → row_cmp row other ≡ o → row ≡ other
    at Less is = absurd (lesser row is here)
    at Equal is = rows_apart row other is
    at Greater is = absurd (least other (turned row other is) there)

-- no statement is an insert and an update
not_both : (row : Row) (s : Statement) → IsInsertOf row s → IsUpdate s → ⊥
not_both row s insert update = none_some _ (sym (ap (option_map (λ (added : Row × ℤ). added.0)) (update_inserts_none s update)) ∙ insert)

-- one transaction was the first to install a row
one_installer : (past : Past) (txn : Txn) (row : Row) (by other : ℕ) → Conflicts past txn row by → Conflicts past txn row other → by ≡ other
one_installer past txn row by other (some, first, newer, is, writes) (again, second, later, alike, wrote) =
    sym is ∙ ap (λ (t : Txn). t.no) (before_end newer later first second (writers row (commits txn.before)) (sym writes ∙ wrote)) ∙ alike

-- of two conflicts the one comes first, or they are of one kind at one row
ordered : (kind other : ConflictKind) (row another : Row)
    → ((kind ≡ other) × (row ≡ another)) ⊎ ComesFirst kind row other another ⊎ ComesFirst other another kind row
ordered kind other row another = at (row_cmp row another) refl
  where
    alike : (one two : ConflictKind) → row ≡ another → ((one ≡ two) × (row ≡ another)) ⊎ ComesFirst one row two another ⊎ ComesFirst two another one row
    alike Write Write same = inl (refl, same)
    alike Write Read same = inr (inl (inr (same, refl, refl)))
    alike Read Write same = inr (inr (inr (sym same, refl, refl)))
    alike Read Read same = inl (refl, same)

    at : (o : Ordering) → row_cmp row another ≡ o → ((kind ≡ other) × (row ≡ another)) ⊎ ComesFirst kind row other another ⊎ ComesFirst other another kind row
    at Less is = inr (inl (inl is))
    at Equal is = alike kind other (rows_apart row another is)
    at Greater is = inr (inr (inl (turned row another is)))

module _ (level : Level) (setup : Table) (past : Past) (session : ℕ) (txn : Txn) where
  -- a commit that conflicts may not be
  no_commit : (kind : ConflictKind) (row : Row) (by : ℕ) → MayCommit level setup past txn → ¬ ConflictsBy level setup past txn kind row by
  no_commit Write row by may conflict =
      none_taken past txn row by (where_holds (rules_of level).write_clashes (if_set (rules_of level).write_clashes _ conflict) may.0) (if_holds (rules_of level).write_clashes conflict)
  no_commit Read row by may conflict =
      stands_or_conflicts setup past txn row by (where_holds (rules_of level).read_clashes (if_set (rules_of level).read_clashes _ conflict) may.1) (if_holds (rules_of level).read_clashes conflict)

  one_other : (kind : ConflictKind) (row : Row) (by number : ℕ) → ConflictsBy level setup past txn kind row by → ConflictsBy level setup past txn kind row number → by ≡ number
  one_other Write row by number h k = one_installer past txn row by number (if_holds (rules_of level).write_clashes h) (if_holds (rules_of level).write_clashes k)
  one_other Read row by number h k = one_read_conflict setup past txn row by number (if_holds (rules_of level).read_clashes h) (if_holds (rules_of level).read_clashes k)

  one_conflict : (kind other : ConflictKind) (row another : Row) (by number : ℕ) → IsFirstConflict level setup past txn kind row by → IsFirstConflict level setup past txn other another number
      → conflict_fault kind row by ≡ conflict_fault other another number
  one_conflict kind other row another by number h k = elim (ordered kind other row another) [
    | inl same ↦
        ap (λ c. conflict_fault c row by) same.0 ∙ ap (λ r. conflict_fault other r by) same.1
        ∙ ap (conflict_fault other another) (one_other other another by number (subst (λ c. ConflictsBy level setup past txn c another by) same.0
        (subst (λ r. ConflictsBy level setup past txn kind r by) same.1 h.0)) k.0)
    | inr either ↦ elim either [ inl first ↦ absurd (k.1 kind row by first h.0) | inr first ↦ absurd (h.1 other another number first k.0) ]
  ]

  module _ (s : Statement) where
    one_effect : (view view' : View) (rows rows' : Rows) (writes writes' : Writes) → IsEffect level setup past txn s view rows writes → IsEffect level setup past txn s view' rows' writes'
        → Listed view rows writes ≡ Listed view' rows' writes'
    one_effect view view' rows rows' writes writes' h k =
        ap (λ v. Listed v rows writes) (same_rows view view' (λ row. h.view_is row ∙ sym (k.view_is row)))
        ∙ ap (λ r. Listed view' r writes) (same_rows rows rows' (λ row. h.rows_are row ∙ sym (k.rows_are row)))
        ∙ ap (λ w. Listed view' rows' w) (same_rows writes writes' (λ row. h.writes_are row ∙ sym (k.writes_are row)))

    one_failing : (row other : Row) → IsFirstFailing level setup past txn s row → IsFirstFailing level setup past txn s other → row ≡ other
    one_failing row other h k = one_least_row (λ r. IsTrue (fails s r (seen level setup past txn r).state)) row other h.there k.there
        (λ r below there. both_ways _ (h.least r below) there) (λ r below there. both_ways _ (k.least r below) there)

    one_free : (one other : Outcome) → FreeAnswer level setup past txn s one → FreeAnswer level setup past txn s other → one ≡ other
    one_free one other (inl (view, rows, writes, h, is)) (inl (view', rows', writes', k, alike)) = is ∙ one_effect view view' rows rows' writes writes' h k ∙ sym alike
    one_free one other (inl (view, rows, writes, h, is)) (inr (inl (row, insert, there, alike))) = absurd (both_ways _ (h.runs row) there)
    one_free one other (inl (view, rows, writes, h, is)) (inr (inr (row, k, alike))) = absurd (both_ways _ (h.runs row) k.there)
    one_free one other (inr (inl (row, insert, there, is))) (inl (view, rows, writes, k, alike)) = absurd (both_ways _ (k.runs row) there)
    one_free one other (inr (inl (row, insert, there, is))) (inr (inl (row', insert', there', alike))) =
        is ∙ ap (λ r. Refused (DuplicateKey r)) (same_Some row row' (sym insert ∙ insert')) ∙ sym alike
    one_free one other (inr (inl (row, insert, there, is))) (inr (inr (row', k, alike))) = absurd (not_both row s insert k.update)
    one_free one other (inr (inr (row, h, is))) (inl (view, rows, writes, k, alike)) = absurd (both_ways _ (k.runs row) h.there)
    one_free one other (inr (inr (row, h, is))) (inr (inl (row', insert, there, alike))) = absurd (not_both row' s insert h.update)
    one_free one other (inr (inr (row, h, is))) (inr (inr (row', k, alike))) = is ∙ ap (λ r. Refused (OutOfRange r)) (one_failing row row' h k) ∙ sym alike

    one_held : (one other : Outcome) → HeldAnswer level setup past session s one → HeldAnswer level setup past session s other → one ≡ other
    one_held one other (inl (on, h, is)) (inl (on', k, alike)) =
        is ∙ ap Waits (same_pairs on on' (AllPairs-from_increasing on h.rising) (AllPairs-from_increasing on' k.rising) (λ n c. (k.are n).1 ((h.are n).0 c)) (λ n c. (h.are n).1 ((k.are n).0 c))) ∙ sym alike
    one_held one other (inl (on, h, is)) (inr (circle, k, alike)) = absurd (h.no_circle circle k.is_circle)
    one_held one other (inr (circle, h, is)) (inl (on, k, alike)) = absurd (k.no_circle circle h.is_circle)
    one_held one other (inr (circle, h, is)) (inr (circle', k, alike)) =
        is ∙ ap (λ (c : List ℕ). Refused (Deadlock c)) (one_least_circle level setup past session s circle circle' h k) ∙ sym alike

    -- the first step of a chain goes to one who blocks the statement
    chain_blocks : (rest : List ℕ) (goal : ℕ) → IsChain level setup past session s rest goal → (other : ℕ) × BlockedBy level setup past session s other
    chain_blocks [] goal c = (goal, c)
    chain_blocks (next ∷ rest) goal c = (next, c.0)

    -- what somebody blocks isn't free
    not_free : (outcome : Outcome) → IsFree level setup past session s → HeldAnswer level setup past session s outcome → ⊥
    not_free outcome free (inl ([], h, is)) = h.some refl
    not_free outcome free (inl (n ∷ on, h, is)) = free n ((h.are n).0 (0, omega arith, refl))
    not_free outcome free (inr ([], h, is)) = h.is_circle
    not_free outcome free (inr (first ∷ rest, h, is)) = let b = chain_blocks rest session h.is_circle.2 in free b.0 b.1

  one_of_txn : (command : Command) (one other : Outcome) → TxnAnswer level setup past session txn command one → TxnAnswer level setup past session txn command other → one ≡ other
  one_of_txn Commit one other (inl (may, is)) (inl (can, alike)) = is ∙ sym alike
  one_of_txn Commit one other (inl (may, is)) (inr (kind, row, by, k, alike)) = absurd (no_commit kind row by may k.0)
  one_of_txn Commit one other (inr (kind, row, by, h, is)) (inl (can, alike)) = absurd (no_commit kind row by can h.0)
  one_of_txn Commit one other (inr (kind, row, by, h, is)) (inr (kind', row', by', k, alike)) = is ∙ ap Refused (one_conflict kind kind' row row' by by' h k) ∙ sym alike
  one_of_txn (Run s) one other (inl (free, h)) (inl (f, k)) = one_free s one other h k
  one_of_txn (Run s) one other (inl (free, h)) (inr k) = absurd (not_free s other free k)
  one_of_txn (Run s) one other (inr h) (inl (free, k)) = absurd (not_free s one free h)
  one_of_txn (Run s) one other (inr h) (inr k) = one_held s one other h k
  one_of_txn command one other is alike = is ∙ sym alike

one_idle : (past : Past) (command : Command) (one other : Outcome) → IdleAnswer past command one → IdleAnswer past command other → one ≡ other
one_idle past command one other (inl (begins, is)) (inl (start, alike)) = is ∙ sym alike
one_idle past command one other (inl (begins, is)) (inr (isnt, alike)) = absurd (isnt begins)
one_idle past command one other (inr (isnt, is)) (inl (begins, alike)) = absurd (isnt begins)
one_idle past command one other (inr (isnt, is)) (inr (never, alike)) = is ∙ sym alike

one_known : (level : Level) (setup : Table) (past : Past) (session : ℕ) (command : Command) (one other : Outcome) → KnownAnswer level setup past session command one
    → KnownAnswer level setup past session command other → one ≡ other
one_known level setup past session command one other (inl (none, h)) (inl (nobody, k)) = one_idle past command one other h k
one_known level setup past session command one other (inl (none, h)) (inr (txn, some, k)) = none_some _ (sym none ∙ some)
one_known level setup past session command one other (inr (txn, some, h)) (inl (none, k)) = none_some _ (sym none ∙ some)
one_known level setup past session command one other (inr (txn, some, h)) (inr (txn', again, k)) =
    let same : txn' ≡ txn = same_Some txn' txn (sym again ∙ some) in
    one_of_txn level setup past session txn command one other h (subst (λ t. TxnAnswer level setup past session t command other) same k)

pub one_answer : (level : Level) (setup : Table) (past : Past) (session : ℕ) (command : Command) (one other : Outcome) → Answers level setup past session command one
    → Answers level setup past session command other → one ≡ other
one_answer level setup past session command one other h k =
    one_known level setup past session command one other (answer_known level setup past session command one h) (answer_known level setup past session command other k)

-- one outcome is one event behind a log
one_log : (old new another : List LogEvent) (session : ℕ) (command : Command) (one other : Outcome) → new ≡ old ++ record { session = session; command = command; outcome = one } ∷ []
    → another ≡ old ++ record { session = session; command = command; outcome = other } ∷ [] → one ≡ other → (one ≡ other) × (new ≡ another)
one_log old new another session command one other is alike same =
    (same, is ∙ ap (λ (outcome : Outcome). old ++ (record { session = session; command = command; outcome = outcome }) ∷ []) same ∙ sym alike)

pub one_step : (level : Level) (setup : Table) (old new another : List LogEvent) (session : ℕ) (command : Command) (one other : Outcome) → StepsTo level setup old session command one new
    → StepsTo level setup old session command other another → (one ≡ other) × (new ≡ another)
one_step level setup old new another session command one other h k = one_log old new another session command one other h.0.0.0 k.0.0.0 (at (waiting (past_of old) session) refl)
  where
    never : (outcome : Outcome) → waiting (past_of old) session ≡ None → Permitted level setup (past_of old) session command outcome → outcome ≢ Refused Busy
    never outcome none may is = both_ways _ (ap is_some none) (subst (Permitted level setup (past_of old) session command) is may)

    at : (w : Option Statement) → waiting (past_of old) session ≡ w → one ≡ other
    at None is = one_answer level setup (past_of old) session command one other (h.0.0.1, never one is h.0.0.1, h.1) (k.0.0.1, never other is k.0.0.1, k.1)
    at (Some s) is = let waits : IsSome (waiting (past_of old) session) = some_is (waiting (past_of old) session) s is in h.0.1 waits ∙ sym (k.0.1 waits)

pub one_retry : (level : Level) (setup : Table) (old new another : List LogEvent) (session : ℕ) (one other : Outcome) → RetriesTo level setup old session one new
    → RetriesTo level setup old session other another → (one ≡ other) × (new ≡ another)
one_retry level setup old new another session one other ((s, waits, (is, may), busy), least) ((t, held, (alike, can), never), lesser) =
    one_log old new another session (Run s) one other is (subst (λ u. another ≡ old ++ (record { session = session; command = Run u; outcome = other }) ∷ []) same alike)
    (one_answer level setup (past_of old) session (Run s) one other (may, busy, λ u run. least u (waits ∙ ap Some (run_is u run)))
    (subst (λ u. Permitted level setup (past_of old) session (Run u) other) same can, never, λ u run. lesser u (waits ∙ ap Some (run_is u run))))
  where
    same : t ≡ s
    same = same_Some t s (sym held ∙ waits)

    run_is : (u : Statement) → Run s ≡ Run u → s ≡ u
    run_is u run = cc
