-- What a commit has read stands, or was changed, and at a row by one transaction first.
use Rattle.lab_engine.proofs.Common.{ap, append_assoc, ChangesRead, commits, ConflictsRead, List, NoneChangesRead, Past, ReadsStand, Row, subst, sym, Table, Txn, [], ℕ, ◌++◌, ◌∙◌, ◌∷◌, ◌≡◌, append_cancel_right}

module _ (setup : Table) (txn : Txn) (base : List Txn) (row : Row) where
  -- of a list none of which changed it none did
  none_at : (newer : List Txn) (by : Txn) (older : List Txn) → NoneChangesRead setup txn (newer ++ by ∷ older) base row → ¬ ChangesRead setup txn (older ++ base) by row
  none_at [] by older none = none.1
  none_at (t ∷ newer) by older none = none_at newer by older none.0

  -- the first of a list to change it is one
  one_first : (newer other : List Txn) (x y : Txn) (older elder : List Txn) → newer ++ x ∷ older ≡ other ++ y ∷ elder
      → ChangesRead setup txn (older ++ base) x row → NoneChangesRead setup txn older base row
      → ChangesRead setup txn (elder ++ base) y row → NoneChangesRead setup txn elder base row → x ≡ y
  one_first [] [] x y older elder same changes none change nobody = cc
  one_first [] (u ∷ other) x y older elder same changes none change nobody =
      let rest : older ≡ other ++ y ∷ elder = cc in absurd (none_at other y elder (subst (λ k. NoneChangesRead setup txn k base row) rest none) change)
  one_first (t ∷ newer) [] x y older elder same changes none change nobody =
      let rest : elder ≡ newer ++ x ∷ older = cc in absurd (none_at newer x older (subst (λ k. NoneChangesRead setup txn k base row) rest nobody) changes)
  one_first (t ∷ newer) (u ∷ other) x y older elder same changes none change nobody =
      let rest : newer ++ x ∷ older ≡ other ++ y ∷ elder = cc in one_first newer other x y older elder rest changes none change nobody

-- what stands nobody changed
pub stands_or_conflicts : (setup : Table) (past : Past) (txn : Txn) (row : Row) (by : ℕ) → ReadsStand setup (commits past) txn → ¬ ConflictsRead setup past txn row by
stands_or_conflicts setup past txn row by (since, since_is, stands) (first, newer, older, is_by, place, changes, none) =
    let base : List Txn = commits txn.before in
    let same : since ≡ newer ++ first ∷ older = append_cancel_right since (newer ++ first ∷ older) base (sym since_is ∙ place ∙ sym (append_assoc newer (first ∷ older) base)) in
    none_at setup txn base row newer first older (subst (λ k. NoneChangesRead setup txn k base row) same (stands row)) changes

-- one transaction was the first to change it at a row
pub one_read_conflict : (setup : Table) (past : Past) (txn : Txn) (row : Row) (by other : ℕ) → ConflictsRead setup past txn row by → ConflictsRead setup past txn row other → by ≡ other
one_read_conflict setup past txn row by other (x, newer, older, is, place, changes, none) (y, later, elder, alike, stand, change, nobody) =
    let base : List Txn = commits txn.before in
    let same : newer ++ x ∷ older ≡ later ++ y ∷ elder = append_cancel_right (newer ++ x ∷ older) (later ++ y ∷ elder) base
    (append_assoc newer (x ∷ older) base ∙ sym place ∙ stand ∙ sym (append_assoc later (y ∷ elder) base)) in
    sym is ∙ ap (λ (t : Txn). t.no) (one_first setup txn base row newer later x y older elder same changes none change nobody) ∙ alike
