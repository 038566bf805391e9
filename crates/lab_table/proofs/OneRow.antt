-- What a statement does to one row, by what it is: one that only lists, an insert, or one that changes what it lists.
use Rattle.std.{proofs.{Common.{◌≡◌, ℕ, ℤ, Bool, true, false, cond, not, ◌&&◌, List, Option, Some, None, refl, sym, ap, ◌∙◌}, lemmas.{Bool.{false≢true}, Option.{same_Some, none-some}}}, specs.Prelude.{is_some, is_none, option_map, option_and_then}}
use Rattle.lab_table.specs.Row.{Row, row_eq, numbered, is_in}
use Rattle.lab_table.specs.Table.{State}
use Rattle.lab_table.specs.Predicate.{Predicate}
use Rattle.lab_table.specs.Statement.{where_holds, where_may_hold, picks, may_pick, applied, in_range, overflows, state_left, is_read_only, is_update, inserted, matches, may_match, listed, written, fails, would_write, new_state, kind_is_read_only, kind_is_update, kind_inserted, kind_selects, kind_matches, kind_may_match, kind_matched, kind_rewritten, kind_listed, kind_written, kind_fails, kind_would_write, kind_new_state}
use Rattle.lab_table.specs.declared.statement.{Statement.{Statement}, StatementKind.{StatementKind, TheVariants.{Select, Update, Insert, Delete}}}
use Rattle.lab_table.proofs.MayHold.{ruled_out}

-- the state of a row that was deleted
abbrev gone : State
gone = None

-- whether there is a value, and nothing comes of it
abbrev pub has_no_result : (ℤ → Option State) → State → Bool
has_no_result f None = false
has_no_result f (Some old) = is_none (f old)

-- what an insert does
pub record Inserts (t : List ℕ) (s : StatementKind) (id : Row) (value : ℤ) : Type 0 where
  pub writes : (row : Row) (state : State) → kind_written t s row state ≡ cond (row_eq row id) (Some (Some value)) None
  pub is_refused : (row : Row) (state : State) → kind_fails t s row state ≡ (row_eq row id && is_some state)
  pub lists_none : (row : Row) (state : State) → kind_listed t s row state ≡ None
  pub matches_own : (row : Row) → kind_may_match t s row ≡ row_eq row id

-- what a statement does that changes the rows that it lists
pub record Changes (t : List ℕ) (s : StatementKind) : Type 0 where
  pub writes : (row : Row) (state : State) → kind_fails t s row state ≡ false → kind_written t s row state ≡ option_and_then (kind_rewritten s) (kind_listed t s row state)
  pub is_refused : (row : Row) (state : State) → kind_fails t s row state ≡ has_no_result (kind_rewritten s) (kind_listed t s row state)
  pub writes_listed : (row : Row) (state : State) → kind_listed t s row state ≡ None → kind_written t s row state ≡ None

module _ (t : List ℕ) where
  -- ---- a row that a statement rules out by its own number

  no_value : (pred : Option Predicate) (id : ℕ) → where_may_hold pred id ≡ false → (value : ℤ) → where_holds pred id value ≡ false
  no_value None id off value = absurd (false≢true (sym off))
  no_value (Some p) id off value = ruled_out p id value off

  neither_true : (own may holds : Bool) → (may ≡ false → holds ≡ false) → (own && may) ≡ false → (own && holds) ≡ false
  neither_true true may holds ruled off = ruled off
  neither_true false may holds ruled off = refl

  no_where : (pred : Option Predicate) (row : Row) → may_pick t pred row ≡ false → (value : ℤ) → picks t pred row value ≡ false
  no_where pred row off value = neither_true (is_in t row) (where_may_hold pred row.id) (where_holds pred row.id value) (λ none. no_value pred row.id none value) off

  -- it isn't selected
  unselected : (s : StatementKind) (row : Row) → kind_may_match t s row ≡ false → (value : ℤ) → kind_selects t s row value ≡ false
  unselected (Select pred) row off value = no_where pred row off value
  unselected (Update expr pred) row off value = no_where pred row off value
  unselected (Insert id new) row off value = off
  unselected (Delete pred) row off value = no_where pred row off value

  -- it doesn't match
  kind_no_match : (s : StatementKind) (row : Row) → kind_may_match t s row ≡ false → (state : State) → kind_matches t s row state ≡ false
  kind_no_match s row off None = refl
  kind_no_match s row off (Some value) = unselected s row off value

  not_matched : (s : StatementKind) (row : Row) → kind_may_match t s row ≡ false → (state : State) → kind_matched t s row state ≡ None
  not_matched s row off None = refl
  not_matched s row off (Some value) = ap (λ b. cond b (Some value) None) (unselected s row off value)

  -- nor is it listed
  kind_not_listed : (s : StatementKind) (row : Row) → kind_may_match t s row ≡ false → (state : State) → kind_listed t s row state ≡ None
  kind_not_listed (Select pred) row off state = not_matched (Select pred) row off state
  kind_not_listed (Update expr pred) row off state = not_matched (Update expr pred) row off state
  kind_not_listed (Insert id new) row off state = refl
  kind_not_listed (Delete pred) row off state = not_matched (Delete pred) row off state

  -- it keeps no statement from running
  kind_not_failing : (s : StatementKind) (row : Row) → kind_may_match t s row ≡ false → (state : State) → kind_fails t s row state ≡ false
  kind_not_failing (Select pred) row off state = refl
  kind_not_failing (Update expr pred) row off state = ap (overflows expr) (not_matched (Update expr pred) row off state)
  kind_not_failing (Insert id new) row off state = ap (λ b. b && is_some state) off
  kind_not_failing (Delete pred) row off state = refl

  -- nor would it be written
  kind_not_written : (s : StatementKind) (row : Row) → kind_may_match t s row ≡ false → (state : State) → kind_would_write t s row state ≡ false
  kind_not_written (Select pred) row off state = refl
  kind_not_written (Update expr pred) row off state = ap (λ o. is_some (option_map (λ old. Some (applied expr old)) o)) (not_matched (Update expr pred) row off state)
  kind_not_written (Insert id new) row off state = ap (λ b. is_some (cond b (Some (Some new)) None)) off
  kind_not_written (Delete pred) row off state = ap (λ (o : State). is_some (option_map (λ (old : ℤ). gone) o)) (not_matched (Delete pred) row off state)

  -- ---- a row that matches, and one that doesn't

  -- a row that doesn't match isn't listed
  kind_unmatched_listed : (s : StatementKind) (row : Row) (state : State) → kind_matches t s row state ≡ false → kind_listed t s row state ≡ None
  kind_unmatched_listed (Select pred) row None e = refl
  kind_unmatched_listed (Select pred) row (Some v) e = ap (λ b. cond b (Some v) None) e
  kind_unmatched_listed (Update expr pred) row None e = refl
  kind_unmatched_listed (Update expr pred) row (Some v) e = ap (λ b. cond b (Some v) None) e
  kind_unmatched_listed (Insert id new) row state e = refl
  kind_unmatched_listed (Delete pred) row None e = refl
  kind_unmatched_listed (Delete pred) row (Some v) e = ap (λ b. cond b (Some v) None) e

  -- one that matches and keeps nothing from running is
  kind_listed_some : (s : StatementKind) (row : Row) (state : State) → kind_matches t s row state ≡ true → kind_fails t s row state ≡ false → is_some (kind_listed t s row state) ≡ true
  kind_listed_some s row None m f = absurd (false≢true m)
  kind_listed_some (Select pred) row (Some v) m f = ap (λ b. is_some (cond b (Some v) None)) m
  kind_listed_some (Update expr pred) row (Some v) m f = ap (λ b. is_some (cond b (Some v) None)) m
  kind_listed_some (Insert id new) row (Some v) m f = absurd (false≢true (sym f ∙ ap (λ b. b && true) m))
  kind_listed_some (Delete pred) row (Some v) m f = ap (λ b. is_some (cond b (Some v) None)) m

  -- ---- an absent row

  -- one that isn't written in some state isn't written where it is absent
  kind_absent_unwritten : (s : StatementKind) (row : Row) (state : State) → kind_would_write t s row state ≡ false → kind_would_write t s row None ≡ false
  kind_absent_unwritten (Select pred) row state h = refl
  kind_absent_unwritten (Update expr pred) row state h = refl
  kind_absent_unwritten (Insert id new) row state h = h
  kind_absent_unwritten (Delete pred) row state h = refl

  neither : (b : Bool) → (b && false) ≡ false
  neither true = refl
  neither false = refl

  -- it keeps nothing from running
  kind_absent_runs : (s : StatementKind) (row : Row) → kind_fails t s row None ≡ false
  kind_absent_runs (Select pred) row = refl
  kind_absent_runs (Update expr pred) row = refl
  kind_absent_runs (Insert id new) row = neither (row_eq row (numbered t id))
  kind_absent_runs (Delete pred) row = refl

  -- ---- what a statement that runs leaves of a row is what it writes

  deleted : (o : State) (old new : State) → option_map (λ (v : ℤ). gone) o ≡ Some new → gone ≡ new
  deleted None old new e = absurd (none-some _ e)
  deleted (Some v) old new e = same_Some _ _ e

  kind_new_state-runs : (s : StatementKind) (row : Row) (old : State) (new : State) → kind_fails t s row old ≡ false → kind_written t s row old ≡ Some new → kind_new_state t s row old ≡ new
  kind_new_state-runs (Select pred) row old new runs writes = absurd (none-some _ writes)
  kind_new_state-runs (Update expr pred) row old new runs writes = ap (λ b. cond b None (state_left (kind_written t (Update expr pred) row old))) runs ∙ ap state_left writes
  kind_new_state-runs (Insert id value) row old new runs writes = ap state_left writes
  kind_new_state-runs (Delete pred) row old new runs writes = deleted (kind_matched t (Delete pred) row old) old new writes

  -- ---- a statement that only lists

  kind_reader_writes_none : (s : StatementKind) → kind_is_read_only s ≡ true → (row : Row) (state : State) → kind_written t s row state ≡ None
  kind_reader_writes_none (Select pred) reads row state = refl
  kind_reader_writes_none (Update expr pred) reads row state = absurd (false≢true reads)
  kind_reader_writes_none (Insert id new) reads row state = absurd (false≢true reads)
  kind_reader_writes_none (Delete pred) reads row state = absurd (false≢true reads)

  -- ---- an insert

  kind_insert_is : (s : StatementKind) (id : Row) (value : ℤ) → kind_inserted t s ≡ Some (id, value) → Inserts t s id value
  kind_insert_is (Select pred) id value e = absurd (none-some _ e)
  kind_insert_is (Update expr pred) id value e = absurd (none-some _ e)
  kind_insert_is (Delete pred) id value e = absurd (none-some _ e)
  kind_insert_is (Insert own new) id value e =
      let same = same_Some (numbered t own, new) (id, value) e in
      let key : numbered t own ≡ id = ap (λ (p : Row × ℤ). p.0) same in
      let left : new ≡ value = ap (λ (p : Row × ℤ). p.1) same in
      record {
        writes = λ row state. ap (λ i. cond (row_eq row i) (Some (Some new)) None) key ∙ ap (λ v. cond (row_eq row id) (Some (Some v)) None) left;
        is_refused = λ row state. ap (λ i. row_eq row i && is_some state) key;
        lists_none = λ row state. refl;
        matches_own = λ row. ap (row_eq row) key;
      }

  -- ---- a statement that neither only lists nor adds a row changes what it lists

  kind_change_is : (s : StatementKind) → kind_is_read_only s ≡ false → kind_inserted t s ≡ None → Changes t s
  kind_change_is (Select pred) changes none = absurd (false≢true (sym changes))
  kind_change_is (Insert id new) changes none = absurd (none-some _ (sym none))
  kind_change_is (Update expr pred) changes none = record {
    writes = λ row state runs. updated (kind_matched t (Update expr pred) row state) runs;
    is_refused = λ row state. refused (kind_matched t (Update expr pred) row state);
    writes_listed = λ row state unlisted. ap (option_map (λ old. Some (applied expr old))) unlisted;
  }
    where
      result : (b : Bool) (x : ℤ) → not b ≡ false → Some (Some x) ≡ option_map (λ (v : ℤ). Some v) (cond b (Some x) None)
      result true x runs = refl
      result false x runs = absurd (false≢true (sym runs))

      updated : (o : State) → overflows expr o ≡ false → option_map (λ old. Some (applied expr old)) o ≡ option_and_then (kind_rewritten (Update expr pred)) o
      updated None runs = refl
      updated (Some old) runs = result (in_range (applied expr old)) (applied expr old) runs

      wanting : (b : Bool) (x : ℤ) → not b ≡ is_none (option_map (λ (v : ℤ). Some v) (cond b (Some x) None))
      wanting true x = refl
      wanting false x = refl

      refused : (o : State) → overflows expr o ≡ has_no_result (kind_rewritten (Update expr pred)) o
      refused None = refl
      refused (Some old) = wanting (in_range (applied expr old)) (applied expr old)
  kind_change_is (Delete pred) changes none = record {
    writes = λ row state runs. removed (kind_matched t (Delete pred) row state);
    is_refused = λ row state. kept (kind_matched t (Delete pred) row state);
    writes_listed = λ row state unlisted. ap (option_map (λ (old : ℤ). gone)) unlisted;
  }
    where
      removed : (o : State) → option_map (λ (old : ℤ). gone) o ≡ option_and_then (kind_rewritten (Delete pred)) o
      removed None = refl
      removed (Some old) = refl

      kept : (o : State) → false ≡ has_no_result (kind_rewritten (Delete pred)) o
      kept None = refl
      kept (Some old) = refl

  -- only an update or an insert is ever refused
  kind_others_run : (s : StatementKind) → kind_is_update s ≡ false → kind_inserted t s ≡ None → (row : Row) (state : State) → kind_fails t s row state ≡ false
  kind_others_run (Select pred) other none row state = refl
  kind_others_run (Update expr pred) other none row state = absurd (false≢true (sym other))
  kind_others_run (Insert id new) other none row state = absurd (none-some _ (sym none))
  kind_others_run (Delete pred) other none row state = refl

  -- an update is no insert
  kind_update_inserts_none : (s : StatementKind) → kind_is_update s ≡ true → kind_inserted t s ≡ None
  kind_update_inserts_none (Select pred) t = refl
  kind_update_inserts_none (Update expr pred) t = refl
  kind_update_inserts_none (Insert id new) t = absurd (false≢true t)
  kind_update_inserts_none (Delete pred) t = refl

  -- and a statement that only lists is none
  kind_reader_inserts_none : (s : StatementKind) → kind_is_read_only s ≡ true → kind_inserted t s ≡ None
  kind_reader_inserts_none (Select pred) t = refl
  kind_reader_inserts_none (Update expr pred) t = refl
  kind_reader_inserts_none (Insert id new) t = absurd (false≢true t)
  kind_reader_inserts_none (Delete pred) t = refl

  -- nor an update
  kind_reader_updates_none : (s : StatementKind) → kind_is_read_only s ≡ true → kind_is_update s ≡ false
  kind_reader_updates_none (Select pred) t = refl
  kind_reader_updates_none (Update expr pred) t = absurd (false≢true t)
  kind_reader_updates_none (Insert id new) t = refl
  kind_reader_updates_none (Delete pred) t = refl

-- ---- the same of a statement, by its table and its kind

pub no_match : (s : Statement) (row : Row) → may_match s row ≡ false → (state : State) → matches s row state ≡ false
no_match s = kind_no_match s.table s.kind

pub not_listed : (s : Statement) (row : Row) → may_match s row ≡ false → (state : State) → listed s row state ≡ None
not_listed s = kind_not_listed s.table s.kind

pub not_failing : (s : Statement) (row : Row) → may_match s row ≡ false → (state : State) → fails s row state ≡ false
not_failing s = kind_not_failing s.table s.kind

pub not_written : (s : Statement) (row : Row) → may_match s row ≡ false → (state : State) → would_write s row state ≡ false
not_written s = kind_not_written s.table s.kind

pub unmatched_listed : (s : Statement) (row : Row) (state : State) → matches s row state ≡ false → listed s row state ≡ None
unmatched_listed s = kind_unmatched_listed s.table s.kind

pub listed_some : (s : Statement) (row : Row) (state : State) → matches s row state ≡ true → fails s row state ≡ false → is_some (listed s row state) ≡ true
listed_some s = kind_listed_some s.table s.kind

pub absent_unwritten : (s : Statement) (row : Row) (state : State) → would_write s row state ≡ false → would_write s row None ≡ false
absent_unwritten s = kind_absent_unwritten s.table s.kind

pub absent_runs : (s : Statement) (row : Row) → fails s row None ≡ false
absent_runs s = kind_absent_runs s.table s.kind

pub new_state-runs : (s : Statement) (row : Row) (old : State) (new : State) → fails s row old ≡ false → written s row old ≡ Some new → new_state s row old ≡ new
new_state-runs s = kind_new_state-runs s.table s.kind

pub reader_writes_none : (s : Statement) → is_read_only s ≡ true → (row : Row) (state : State) → written s row state ≡ None
reader_writes_none s = kind_reader_writes_none s.table s.kind

pub insert_is : (s : Statement) (id : Row) (value : ℤ) → inserted s ≡ Some (id, value) → Inserts s.table s.kind id value
insert_is s = kind_insert_is s.table s.kind

pub change_is : (s : Statement) → is_read_only s ≡ false → inserted s ≡ None → Changes s.table s.kind
change_is s = kind_change_is s.table s.kind

pub others_run : (s : Statement) → is_update s ≡ false → inserted s ≡ None → (row : Row) (state : State) → fails s row state ≡ false
others_run s = kind_others_run s.table s.kind

pub update_inserts_none : (s : Statement) → is_update s ≡ true → inserted s ≡ None
update_inserts_none s = kind_update_inserts_none s.table s.kind

pub reader_inserts_none : (s : Statement) → is_read_only s ≡ true → inserted s ≡ None
reader_inserts_none s = kind_reader_inserts_none s.table s.kind

pub reader_updates_none : (s : Statement) → is_read_only s ≡ true → is_update s ≡ false
reader_updates_none s = kind_reader_updates_none s.table s.kind
