-- What the tests of statements that ran say of other transactions.
use Rattle.std.{proofs.{Common.{◌≡◌, ◌∙◌, ℕ, refl, sym, ap, subst, Bool, true, false, cond, ◌&&◌, ◌||◌, inl, inr, List, [], ◌∷◌}, lemmas.List.Folds.{Any-from_list_any}}, specs.Prelude.{◌↔◌, ℤ, Option, Some, None, unwrap_or, IsTrue}}
use Rattle.lab_engine.proofs.Common.{is_none, same_Some, none_some, list_any, option_or, find, get, entries, get-entries, and_parts, and_from, or_cases, or_left, or_right, true≢false, State, Statement, same_row, last_before, Kept, kept_at, chain_kept, pending_kept, Past, Txn, initial_version, seen, has_read, IsOther, IsRunning, statements_of}
use Rattle.lab_engine.specs.{declared.{event.Level.TheVariants.{Locking}, session_state.RunningTxn.{RunningTxn}, asker.Asker.{Asker}}, KeptRows.{entries_in}, Rules.{HasRead}, Asker.{IsAsker, seen_in}}
use Rattle.lab_table.specs.{Row.{Row, row_cmp, row_eq, numbered}, NamedRow.{KindNames, StatementNames}, Statement.{matches, may_match, would_write, new_state, kind_would_write}, declared.statement.StatementKind.{StatementKind, TheVariants.{Insert}}}
use Rattle.lab_engine.proofs.Choosing.{Tells, chosen_is}
use Rattle.lab_engine.proofs.Holding.{any_read, found_of_any}
use Rattle.lab_engine.proofs.KeptChains.{find_kept}
use Rattle.lab_engine.proofs.OtherWriters.{named}
use Rattle.lab_engine.proofs.SeenRows.{seen_is}
use Rattle.lab_locking.specs.Reads.{has_read_either, is_reader, reads_seen, reads_row, reads_of_untouched, reads_of_written}

-- ---- what a transaction has read

-- a transaction has run a statement that matches a row in one of two states
abbrev pub ReadsEither : Row → State → State → Txn → Type 0
ReadsEither row old new holder = IsTrue (has_read holder.ops row old || has_read holder.ops row new)

reads_is : (row : Row) (old new : State) (holder : Txn) (running : RunningTxn) → IsRunning Locking holder running
    → has_read_either row old new running ≡ (has_read holder.ops row old || has_read holder.ops row new)
reads_is row old new holder running is =
    ap (λ b. b || list_any (λ s. matches s row new) (statements_of running)) (any_read (statements_of running) holder.ops row old is.statements)
    ∙ ap (λ b. has_read holder.ops row old || b) (any_read (statements_of running) holder.ops row new is.statements)

-- so a test of its statements says
reads_tell : (past : Past) (row : Row) (old new : State) → Tells Locking past (λ _ running. has_read_either row old new running) (ReadsEither row old new)
reads_tell past row old new other holder running is agrees = (
  (λ any. sym (reads_is row old new holder running agrees) ∙ any),
  (λ reads. reads_is row old new holder running agrees ∙ reads),
)

-- ---- a row that a statement would write

module _ (past : Past) (txn : Txn) (asker : Asker) (asks : IsAsker Locking past txn asker) (s : Statement) where
  -- a transaction has read this row, which the statement would write
  abbrev pub ReadsAt : Row → Txn → Type 0
  ReadsAt row holder = IsTrue (would_write s row (seen Locking asker.setup.now past txn row).state)
      × ReadsEither row (seen Locking asker.setup.now past txn row).state (new_state s row (seen Locking asker.setup.now past txn row).state) holder

  pub reads_row_is : (n : ℕ) (row : Row) → IsTrue (reads_row asker s n row) ↔ IsOther past asker.session n (ReadsAt row)
  reads_row_is n row = (to, from)
    where
      state : State
      state = (seen Locking asker.setup.now past txn row).state

      same : reads_row asker s n row ≡ reads_seen asker s n row state
      same = ap (λ v. reads_seen asker s n row v.state) (seen_is Locking past txn asker asks row)

      says : IsTrue (is_reader asker row state (new_state s row state) n) ↔ IsOther past asker.session n (ReadsEither row state (new_state s row state))
      says = chosen_is past asker.situation.now asker.session (λ _ running. has_read_either row state (new_state s row state) running) (ReadsEither row state (new_state s row state))
          asks.situation (reads_tell past row state (new_state s row state)) n

      to : IsTrue (reads_row asker s n row) → IsOther past asker.session n (ReadsAt row)
      to any =
          let parts = and_parts (would_write s row state) (is_reader asker row state (new_state s row state) n) (sym same ∙ any) in
          let other = says.0 parts.1 in
          (other.0, other.1, other.2, (parts.0, other.3))

      from : IsOther past asker.session n (ReadsAt row) → IsTrue (reads_row asker s n row)
      from (holder, ne, active_is, (writes, reads)) =
          same ∙ and_from (would_write s row state) (is_reader asker row state (new_state s row state) n) writes (says.1 (holder, ne, active_is, reads))

  -- where only one row may match, only that is asked
  pub named_reads : (row : Row) → ((other : Row) → may_match s other ≡ true → other ≡ row) → (n : ℕ)
      → IsTrue (reads_row asker s n row) ↔ IsOther past asker.session n (HasRead Locking asker.setup.now past txn s)
  named_reads row only n = (to, from)
    where
      to : IsTrue (reads_row asker s n row) → IsOther past asker.session n (HasRead Locking asker.setup.now past txn s)
      to any = let other = (reads_row_is n row).0 any in (other.0, other.1, other.2, (row, other.3.0, other.3.1))

      from : IsOther past asker.session n (HasRead Locking asker.setup.now past txn s) → IsTrue (reads_row asker s n row)
      from (holder, ne, active_is, (other, writes, read)) =
          subst (λ r. IsTrue (reads_row asker s n r)) (named Locking asker.setup.now past txn s row only other (seen Locking asker.setup.now past txn other).state writes)
          ((reads_row_is n other).1 (holder, ne, active_is, (writes, read)))

-- ---- all rows

module _ {A : Type 0} (p : Row → Bool) where
  -- a row of a list of entries that passes a test
  entry_found : (es : List (Row × A)) → list_any (λ entry. p entry.0) es ≡ true → (row : Row) × (p row ≡ true)
  entry_found es any = let f = Any-from_list_any (λ entry. p entry.0) es any in (f.1.0, f.4)

  -- a row that passes it and is found among entries
  found_entry : (row : Row) (v : A) (es : List (Row × A)) → find row_cmp row es ≡ Some v → p row ≡ true → list_any (λ entry. p entry.0) es ≡ true
  found_entry row v [] is passes = none_some _ is
  found_entry row v (e ∷ es) is passes = by (λ behind. found_entry row v es behind passes) (row_eq row e.0) refl is
    where
      by : (find row_cmp row es ≡ Some v → list_any (λ entry. p entry.0) es ≡ true) → (b : Bool) → row_eq row e.0 ≡ b → cond b (Some e.1) (find row_cmp row es) ≡ Some v
          → (p e.0 || list_any (λ entry. p entry.0) es) ≡ true
      by rest true same is = or_left (p e.0) (list_any (λ entry. p entry.0) es) (ap p (sym (same_row row e.0 same)) ∙ passes)
      by rest false same is = or_right (p e.0) (list_any (λ entry. p entry.0) es) (rest is)

-- an entry that passes a test and is found among entries
entry_there : {A : Type 0} (p : Row × A → Bool) (row : Row) (v : A) (es : List (Row × A)) → find row_cmp row es ≡ Some v → p (row, v) ≡ true → list_any p es ≡ true
entry_there p row v [] is passes = none_some _ is
entry_there {A} p row v (e ∷ es) is passes = by (λ behind. entry_there p row v es behind passes) (row_eq row e.0) refl is
  where
    by : (find row_cmp row es ≡ Some v → list_any p es ≡ true) → (b : Bool) → row_eq row e.0 ≡ b → cond b (Some e.1) (find row_cmp row es) ≡ Some v → (p e || list_any p es) ≡ true
    by rest true same is = or_left (p e) (list_any p es) (ap p (λ i. (sym (same_row row e.0 same) i, same_Some e.1 v is i)) ∙ passes)
    by rest false same is = or_right (p e) (list_any p es) (rest is)

none_there : {A : Type 0} (o : Option A) → is_none o ≡ true → o ≡ None
none_there None is = refl
none_there (Some x) is = absurd (true≢false (sym is))

-- a statement that names no row writes no absent one
unnamed_absent : (t : List ℕ) (kind : StatementKind) → ((row : Row) → ¬ KindNames t kind row) → (row : Row) → kind_would_write t kind row None ≡ false
unnamed_absent t (Insert id new) never row = absurd (never (numbered t id) refl)
unnamed_absent t other never row = refl

module _ (past : Past) (txn : Txn) (asker : Asker) (asks : IsAsker Locking past txn asker) (s : Statement) (unnamed : (row : Row) → ¬ StatementNames s row) (n : ℕ) where
  -- a row that the setup hasn't and nobody has written is absent
  absent_seen : (row : Row) → get asker.setup.now row ≡ None → kept_at asker.situation.now.rows row ≡ None → (seen_in asker row).state ≡ None
  absent_seen row none nothing =
      ap (λ (o : Option Kept). (unwrap_or (option_or (pending_kept o asker.session) (last_before asker.sees_before (chain_kept o))) (initial_version asker.setup.now row)).state) nothing ∙ none

  -- a row that nobody has written is seen as the setup has it
  untouched_seen : (row : Row) (v : ℤ) → get asker.setup.now row ≡ Some v → kept_at asker.situation.now.rows row ≡ None → (seen_in asker row).state ≡ Some v
  untouched_seen row v there nothing =
      ap (λ (o : Option Kept). (unwrap_or (option_or (pending_kept o asker.session) (last_before asker.sees_before (chain_kept o))) (initial_version asker.setup.now row)).state) nothing ∙ there

  abbrev test : Row × ℤ → Bool
  test entry = is_none (kept_at asker.situation.now.rows entry.0) && reads_seen asker s n entry.0 (Some entry.1)

  -- whoever has read a row that the statement would write has read one of the setup's that nobody has written, or one that somebody has
  of_some : (row : Row) → reads_row asker s n row ≡ true → IsTrue (reads_of_untouched asker s n || reads_of_written asker s n)
  of_some row any = written (kept_at asker.situation.now.rows row) refl
    where
      untouched : kept_at asker.situation.now.rows row ≡ None → (o : Option ℤ) → get asker.setup.now row ≡ o → IsTrue (reads_of_untouched asker s n || reads_of_written asker s n)
      untouched nothing (Some v) there =
          or_left (reads_of_untouched asker s n) (reads_of_written asker s n)
          (entry_there test row v (entries asker.setup.now) (sym (get-entries asker.setup.now row) ∙ there)
          (and_from (is_none (kept_at asker.situation.now.rows row)) (reads_seen asker s n row (Some v)) (ap is_none nothing) (sym (ap (reads_seen asker s n row) (untouched_seen row v there nothing)) ∙ any)))
      untouched nothing None none =
          let state = (seen_in asker row).state in
          absurd (true≢false (sym (and_parts (would_write s row state) (is_reader asker row state (new_state s row state) n) any).0
          ∙ ap (would_write s row) (absent_seen row none nothing) ∙ unnamed_absent s.table s.kind unnamed row))

      written : (o : Option Kept) → kept_at asker.situation.now.rows row ≡ o → IsTrue (reads_of_untouched asker s n || reads_of_written asker s n)
      written (Some kept) there =
          or_right (reads_of_untouched asker s n) (reads_of_written asker s n)
          (found_entry (λ r. reads_row asker s n r) row kept (entries_in asker.situation.now.rows) (find_kept row (entries_in asker.situation.now.rows) ∙ there) any)
      written None nothing = untouched nothing (get asker.setup.now row) refl

  -- the rows of the setup that nobody has written, and those that somebody has, are all that count
  pub all_reads : IsTrue (reads_of_untouched asker s n || reads_of_written asker s n)
      ↔ IsOther past asker.session n (HasRead Locking asker.setup.now past txn s)
  all_reads = (to, from)
    where
      at_row : (row : Row) × (reads_row asker s n row ≡ true) → IsOther past asker.session n (HasRead Locking asker.setup.now past txn s)
      at_row (row, any) =
          let other = (reads_row_is past txn asker asks s n row).0 any in
          (other.0, other.1, other.2, (row, other.3.0, other.3.1))

      of_setup : reads_of_untouched asker s n ≡ true → (row : Row) × (reads_row asker s n row ≡ true)
      of_setup any =
          let f = found_of_any test asker.setup.now any in
          let parts = and_parts (is_none (kept_at asker.situation.now.rows f.0)) (reads_seen asker s n f.0 (Some f.1)) f.3 in
          (f.0, ap (reads_seen asker s n f.0) (untouched_seen f.0 f.1 f.2 (none_there (kept_at asker.situation.now.rows f.0) parts.0)) ∙ parts.1)

      to : IsTrue (reads_of_untouched asker s n || reads_of_written asker s n) → IsOther past asker.session n (HasRead Locking asker.setup.now past txn s)
      to any = elim (or_cases (reads_of_untouched asker s n) (reads_of_written asker s n) any) [
        | inl setup ↦ at_row (of_setup setup)
        | inr written ↦ at_row (entry_found (λ r. reads_row asker s n r) (entries_in asker.situation.now.rows) written)
      ]

      from : IsOther past asker.session n (HasRead Locking asker.setup.now past txn s) → IsTrue (reads_of_untouched asker s n || reads_of_written asker s n)
      from (holder, ne, active_is, (row, writes, read)) =
          of_some row ((reads_row_is past txn asker asks s n row).1 (holder, ne, active_is, (writes, read)))
