-- Who was the first to change what a transaction has read.
use Rattle.std.proofs.{Common.{◌≡◌, ℕ, refl, sym, ap, subst, ◌∙◌, Bool, true, false, cond, ◌||◌, List, [], ◌∷◌, ◌++◌, append_assoc, Option, Some, None}, lemmas.List.{append_cancel_right}}
use Rattle.lab_engine.{proofs.Common.{none_some, same_Some, option_or, Row, State, Table, Past, Version, Txn, commits, version_by, has_read}, specs.Rules.{state_after, ChangesRead, NoneChangesRead, ConflictsRead}}
use Rattle.lab_optimistic.proofs.ChangedRows.{changed_by, first_changing}

-- ---- one that installed a row

module _ (setup : Table) (txn : Txn) (row : Row) where
  -- whether a transaction has read a row in one of two states
  abbrev pub reads : State → State → Bool
  reads old new = has_read txn.ops row old || has_read txn.ops row new

  module _ (earlier : List Txn) (by : Txn) where
    unchanged : changed_by setup row reads earlier by.no (version_by by row) ≡ None → ¬ ChangesRead setup txn earlier by row
    unchanged none (v, is, read) = none_some _ (sym none ∙ ap (changed_by setup row reads earlier by.no) is ∙ ap (λ b. cond b (Some by.no) None) read)

    changed : (n : ℕ) → changed_by setup row reads earlier by.no (version_by by row) ≡ Some n → (by.no ≡ n) × ChangesRead setup txn earlier by row
    changed n some = at (version_by by row) refl some
      where
        passes : (v : Version) → version_by by row ≡ Some v → (b : Bool) → reads (state_after setup earlier row) v.state ≡ b → cond b (Some by.no) None ≡ Some n
            → (by.no ≡ n) × ChangesRead setup txn earlier by row
        passes v is true read same = (same_Some by.no n same, (v, is, read))
        passes v is false read same = none_some _ same

        at : (o : Option Version) → version_by by row ≡ o → changed_by setup row reads earlier by.no o ≡ Some n → (by.no ≡ n) × ChangesRead setup txn earlier by row
        at None is same = none_some _ same
        at (Some v) is same = passes v is (reads (state_after setup earlier row) v.state) refl same

  -- ---- a list of them

  no_one : (a b : Option ℕ) → option_or a b ≡ None → (a ≡ None) × (b ≡ None)
  no_one None b none = (refl, none)
  no_one (Some n) b none = none_some _ (sym none)

  -- nobody did
  pub none_did : (since base : List Txn) → first_changing setup row reads since base ≡ None → NoneChangesRead setup txn since base row
  none_did [] base none = tt
  none_did (by ∷ earlier) base none =
      let both = no_one (first_changing setup row reads earlier base) (changed_by setup row reads (earlier ++ base) by.no (version_by by row)) none in
      (none_did earlier base both.0, unchanged (earlier ++ base) by both.1)

  -- this one was the first
  first_did : (since base : List Txn) (n : ℕ) → first_changing setup row reads since base ≡ Some n
      → (first : Txn) × (newer older : List Txn) × (first.no ≡ n) × (since ≡ newer ++ first ∷ older) × ChangesRead setup txn (older ++ base) first row × NoneChangesRead setup txn older base row
  first_did [] base n some = none_some _ some
  first_did (by ∷ earlier) base n some = at (first_did earlier base n) (first_changing setup row reads earlier base) refl some
    where
      at : (first_changing setup row reads earlier base ≡ Some n → (first : Txn) × (newer older : List Txn) × (first.no ≡ n) × (earlier ≡ newer ++ first ∷ older)
          × ChangesRead setup txn (older ++ base) first row × NoneChangesRead setup txn older base row)
          → (o : Option ℕ) → first_changing setup row reads earlier base ≡ o → option_or o (changed_by setup row reads (earlier ++ base) by.no (version_by by row)) ≡ Some n
          → (first : Txn) × (newer older : List Txn) × (first.no ≡ n) × (by ∷ earlier ≡ newer ++ first ∷ older) × ChangesRead setup txn (older ++ base) first row
          × NoneChangesRead setup txn older base row
      at behind (Some m) is same =
          let f = behind (is ∙ same) in
          (f.0, by ∷ f.1, f.2, f.3, ap (λ (l : List Txn). by ∷ l) f.4, f.5, f.6)
      at behind None is same =
          let c = changed (earlier ++ base) by n same in
          (by, [], earlier, c.0, refl, c.1, none_did earlier base is)

  -- where nobody of a list did, none that stands in it did
  stands_at : (newer : List Txn) (first : Txn) (older base : List Txn) → NoneChangesRead setup txn (newer ++ first ∷ older) base row → ¬ ChangesRead setup txn (older ++ base) first row
  stands_at [] first older base none = none.1
  stands_at (t ∷ newer) first older base none = stands_at newer first older base none.0

  module _ (past : Past) (since : List Txn) (commits_are : commits past ≡ since ++ commits txn.before) where
    -- a commit conflicts with the first
    pub conflicts : (n : ℕ) → first_changing setup row reads since (commits txn.before) ≡ Some n → ConflictsRead setup past txn row n
    conflicts n some =
        let f = first_did since (commits txn.before) n some in
        (f.0, f.1, f.2, f.3, commits_are ∙ ap (λ (l : List Txn). l ++ commits txn.before) f.4 ∙ append_assoc f.1 (f.0 ∷ f.2) (commits txn.before), f.5, f.6)

    -- and with nobody where nobody did
    pub no_conflict : (n : ℕ) → NoneChangesRead setup txn since (commits txn.before) row → ¬ ConflictsRead setup past txn row n
    no_conflict n none (first, newer, older, _, is, change, _) =
        let same : since ≡ newer ++ first ∷ older =
        append_cancel_right since (newer ++ first ∷ older) (commits txn.before) (sym commits_are ∙ is ∙ sym (append_assoc newer (first ∷ older) (commits txn.before))) in
        stands_at newer first older (commits txn.before) (subst (λ (l : List Txn). NoneChangesRead setup txn l (commits txn.before) row) same none) change
