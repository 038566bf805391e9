-- Other sessions with a pending write of a row that a statement would write.
use Rattle.lab_engine.proofs.Common.{active, Any-from_list_any, ap, Bool, both_ways, Describes, false, HoldsWrite, is_some, IsRunning, IsSome, IsTrue, Level, List, list_any, list_any_at, may_match, not_written, Past, pending_in, refl, Row, row_eq, row_eq_self, RunningTxn, same_row, seen, Situation, Some, State, Statement, subst, sym, Table, true, Txn, version_by, would_write, written_by, ℕ, ◌↔◌, ◌∙◌, ◌≡◌}

-- a test that holds of a row of a list
any_row : (p : Row → Bool) (rows : List Row) → list_any p rows ≡ true → (row : Row) × IsTrue (list_any (row_eq row) rows) × IsTrue (p row)
any_row p rows any = let f = Any-from_list_any p rows any in (f.1, list_any_at (row_eq f.1) rows f.0 f.1 f.2 (ap (row_eq f.1) f.3 ∙ row_eq_self f.1), f.4)

-- a row of a list that passes a test
pub row_any : (p : Row → Bool) (rows : List Row) (row : Row) → IsTrue (list_any (row_eq row) rows) → IsTrue (p row) → list_any p rows ≡ true
row_any p rows row among holds = let f = Any-from_list_any (row_eq row) rows among in list_any_at p rows f.0 f.1 f.2 (ap p (f.3 ∙ sym (same_row row f.1 f.4)) ∙ holds)

module _ (level : Level) (setup : Table) (past : Past) (txn : Txn) (s : Statement) where
  -- a row that the statement would write
  abbrev Writes : Row → Type 0
  Writes row = IsTrue (would_write s row (seen level setup past txn row).state)

  -- a transaction holds such a write where a test of the rows that it wrote says so
  pub written_holds : (holder : Txn) (kept : RunningTxn) (test : Row → Bool) → IsRunning level holder kept → ((row : Row) → test row ≡ would_write s row (seen level setup past txn row).state)
      → IsTrue (list_any test kept.written.items) ↔ HoldsWrite level setup past txn s holder
  written_holds holder kept test agrees same = (
    (λ any. let f = any_row test kept.written.items any in (f.0, sym (agrees.written f.0) ∙ f.1, sym (same f.0) ∙ f.2)),
    (λ held. row_any test kept.written.items held.0 (agrees.written held.0 ∙ held.1) (same held.0 ∙ held.2)),
  )

  module _ (row : Row) (only : (other : Row) → may_match s other ≡ true → other ≡ row) where
    -- the row that a statement would write is the one that it names
    pub named : (q : Row) (state : State) → IsTrue (would_write s q state) → q ≡ row
    named q state writes = elim (may_match s q) as (λ b. may_match s q ≡ b → q ≡ row) [
      | true ↦ λ may. only q may
      | false ↦ λ off. absurd (both_ways _ (not_written s q off state) writes)
    ] refl

    -- where it wouldn't write that, nobody has written a row that it would write
    pub unwritten_free : would_write s row (seen level setup past txn row).state ≡ false → (holder : Txn) → ¬ HoldsWrite level setup past txn s holder
    unwritten_free never holder (q, some, writes) =
        both_ways _ never (subst Writes (named q (seen level setup past txn q).state writes) writes)

    -- where it would, those have that have written it
    pub named_holds : Writes row → (holder : Txn) → IsSome (version_by holder row) ↔ HoldsWrite level setup past txn s holder
    named_holds writes holder = (
      (λ some. (row, some, writes)),
      (λ held. subst (λ (k : Row). IsSome (version_by holder k)) (named held.0 (seen level setup past txn held.0).state held.2) held.1),
    )

-- a session has a version of a row pending where its active transaction has written it
pub pending_wrote : {level : Level} (past : Past) (situation : Situation) (row : Row) (other : ℕ) (holder : Txn) → Describes level past situation → active past other ≡ Some holder
    → IsTrue (is_some (pending_in situation.rows row other)) ↔ IsSome (version_by holder row)
pending_wrote past situation row other holder d is = ((λ some. sym same ∙ some), (λ wrote. same ∙ wrote))
  where
    same : is_some (pending_in situation.rows row other) ≡ is_some (version_by holder row)
    same = ap is_some (d.rows.pending row other ∙ ap (λ t. written_by t row) is)
