-- What the tests of pending writes say of other transactions.
use Rattle.std.proofs.{Common.{◌≡◌, ◌∙◌, ℕ, refl, sym, ap, subst, arith, Bool, true, false, ◌||◌, length, ◌↔◌, Option, Some, None, is_some, unwrap_or, IsTrue}, lemmas.List.Folds.{Any-from_list_any}}
use Rattle.lab_engine.proofs.Common.{list_any, true≢false, Row, State, matches, may_match, Statement, no_match, chain, last_before, Kept, kept_at, chain_kept, pending_kept, chain_in, pending_in, Past, Version, Txn, active, version_by, initial_version, committed_version, IsOther, written_by}
use Rattle.lab_engine.specs.{declared.{asker.Asker.{Asker}, event.Level.TheVariants.{Locking}}, Asker.{IsAsker}, Rules.{HoldsMatch}}
use Rattle.lab_engine.proofs.Choosing.{Tells}
use Rattle.lab_engine.proofs.InstalledChains.{last_in}
use Rattle.lab_engine.proofs.OtherWriters.{row_any}
use Rattle.lab_locking.specs.Matches.{committed_state, matches_either, matches_kept, matches_at}

module _ (past : Past) (txn : Txn) (asker : Asker) (asks : IsAsker Locking past txn asker) (s : Statement) where
  -- the committed state of a row
  committed_is : (row : Row) → committed_state asker row (chain_in asker.situation.now.rows row) ≡ (committed_version asker.setup.now past row).state
  committed_is row =
      ap (λ c. committed_state asker row c) (asks.situation.rows.chains row)
      ∙ ap (λ n. (unwrap_or (last_before n (chain past row)) (initial_version asker.setup.now row)).state) asks.situation.events
      ∙ ap (λ (o : Option Version). (unwrap_or o (initial_version asker.setup.now row)).state) (last_in row (length past) past (omega arith))

  kept_is : (row : Row) (n : ℕ) (o : Option Kept) → matches_kept asker s row o n ≡ matches_either s row (committed_state asker row (chain_kept o)) (pending_kept o n)
  kept_is row n None = refl
  kept_is row n (Some kept) = refl

  -- a transaction has a pending version of this row, which or whose committed state matches
  abbrev HoldsAt : Row → Txn → Type 0
  HoldsAt row holder = (v : Version) × (version_by holder row ≡ Some v) × IsTrue (matches s row (committed_version asker.setup.now past row).state || matches s row v.state)

  either_some : (row : Row) (state : State) (o : Option Version) → matches_either s row state o ≡ true → (v : Version) × (o ≡ Some v) × IsTrue (matches s row state || matches s row v.state)
  either_some row state None any = absurd (true≢false (sym any))
  either_some row state (Some v) any = (v, refl, any)

  module _ (other : ℕ) (holder : Txn) (is : active past other ≡ Some holder) where
    -- the test asks the version that the session's active transaction has written last
    matches_is : (row : Row) → matches_at asker s other row ≡ matches_either s row (committed_version asker.setup.now past row).state (version_by holder row)
    matches_is row =
        kept_is row other (kept_at asker.situation.now.rows row) ∙ ap (λ state. matches_either s row state (pending_in asker.situation.now.rows row other)) (committed_is row)
        ∙ ap (matches_either s row (committed_version asker.setup.now past row).state) (asks.situation.rows.pending row other ∙ ap (λ o. written_by o row) is)

    at_is : (row : Row) → IsTrue (matches_at asker s other row) ↔ HoldsAt row holder
    at_is row = (
      (λ any. either_some row (committed_version asker.setup.now past row).state (version_by holder row) (sym (matches_is row) ∙ any)),
      (λ held. matches_is row ∙ ap (matches_either s row (committed_version asker.setup.now past row).state) held.1 ∙ held.2),
    )

    -- where only one row may match, that says it of all rows
    pub named_is : (row : Row) → ((other : Row) → may_match s other ≡ true → other ≡ row) → IsTrue (matches_at asker s other row) ↔ HoldsMatch asker.setup.now past s holder
    named_is row only = ((λ any. let held = (at_is row).0 any in (row, held.0, held.1, held.2)), from)
      where
        only_match : (q : Row) (one two : State) → IsTrue (matches s q one || matches s q two) → q ≡ row
        only_match q one two matched = by (may_match s q) refl
          where
            by : (b : Bool) → may_match s q ≡ b → q ≡ row
            by true may = only q may
            by false off = absurd (true≢false (sym matched ∙ ap (λ b. b || matches s q two) (no_match s q off one) ∙ no_match s q off two))

        from : HoldsMatch asker.setup.now past s holder → IsTrue (matches_at asker s other row)
        from (q, v, wrote, matched) =
            subst (λ r. IsTrue (matches_at asker s other r)) (only_match q (committed_version asker.setup.now past q).state v.state matched) ((at_is q).1 (v, wrote, matched))

  -- a test of the rows that a transaction wrote says whether it holds a match
  pub some_tells : Tells Locking past (λ other running. list_any (matches_at asker s other) running.written.items) (HoldsMatch asker.setup.now past s)
  some_tells other holder running is agrees = (
    (λ any. let f = Any-from_list_any (matches_at asker s other) running.written.items any in let held = (at_is other holder is f.1).0 f.4 in (f.1, held.0, held.1, held.2)),
    (λ held. row_any (matches_at asker s other) running.written.items held.0 (agrees.written held.0 ∙ ap is_some held.2) ((at_is other holder is held.0).1 (held.1, held.2, held.3))),
  )

  -- nobody holds one of a row of which nothing is kept
  pub holds_none : (row : Row) → ((other : Row) → may_match s other ≡ true → other ≡ row) → kept_at asker.situation.now.rows row ≡ None → (n : ℕ)
      → ¬ IsOther past asker.session n (HoldsMatch asker.setup.now past s)
  holds_none row only none n (holder, _, is, held) = true≢false (sym ((named_is n holder is row only).1 held) ∙ ap (λ o. matches_kept asker s row o n) none)
