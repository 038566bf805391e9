-- Which rows of a transaction others have installed since its begin.
use Rattle.lab_engine.{proofs.{Common.{ap, append_assoc, Asker, chain, chain_in, ComesFirst, commits, Conflict, ConflictKind, Conflicts, ConflictsBy, first_since, If, inl, inr, IsAsker, IsBelow, IsFirstCommitter, IsFirstConflict, IsSome, length, Level, List, None, none_some, Option, Past, Read, refl, Row, rules_of, same_Some, Some, subst, sym, Table, true, Txn, unwrap_or, version_by, Write, writers, ℕ, [], ◌++◌, ◌∙◌, ◌∷◌, ◌≡◌}, InstalledChains.{last_no, since_begin, SinceThen}, RisingLists.{none_before}}, specs.Taken.{IsFirstTaken, IsLeastTaken}}

-- ---- who has installed a row since a begin

none_newer : (newer : List Txn) → last_no newer ≡ None → newer ≡ []
none_newer [] h = refl
none_newer (t ∷ ts) h = none_some _ (sym h)

-- the last of a list, which has this number, and those before it
last_of : (newer : List Txn) (by : ℕ) → last_no newer ≡ Some by → (first : Txn) × (more : List Txn) × (first.no ≡ by) × (newer ≡ more ++ first ∷ [])
last_of [] by h = none_some _ h
last_of (t ∷ ts) by h = at (last_no ts) refl (λ n is. last_of ts n is) (same_Some (unwrap_or (last_no ts) t.no) by h) where
  at : (o : Option ℕ) → last_no ts ≡ o → ((n : ℕ) → last_no ts ≡ Some n → (first : Txn) × (more : List Txn) × (first.no ≡ n) × (ts ≡ more ++ first ∷ [])) → unwrap_or (last_no ts) t.no ≡ by
      → (first : Txn) × (more : List Txn) × (first.no ≡ by) × (t ∷ ts ≡ more ++ first ∷ [])
  at None is behind same = (t, [], sym (ap (λ o. unwrap_or o t.no) is) ∙ same, ap (λ (l : List Txn). t ∷ l) (none_newer ts is))
  at (Some n) is behind same =
      let b = behind n is in
      (b.0, t ∷ b.1, b.2 ∙ sym (ap (λ o. unwrap_or o t.no) is) ∙ same, ap (λ (l : List Txn). t ∷ l) b.3)

module _ (past : Past) (txn : Txn) (row : Row) (s : SinceThen row past txn.before) where
  -- nobody has
  untaken : first_since (length txn.before) (chain past row) ≡ None → writers row (commits past) ≡ writers row (commits txn.before)
  untaken none = s.writers_are ∙ ap (λ (l : List Txn). l ++ writers row (commits txn.before)) (none_newer s.newer (sym s.first_is ∙ none))

  -- this one was the first
  conflicts : (by : ℕ) → IsSome (version_by txn row) → first_since (length txn.before) (chain past row) ≡ Some by → Conflicts past txn row by
  conflicts by wrote some =
      let l = last_of s.newer by (sym s.first_is ∙ some) in
      (wrote, l.0, l.1, l.2, s.writers_are ∙ ap (λ (k : List Txn). k ++ writers row (commits txn.before)) l.3 ∙ append_assoc l.1 (l.0 ∷ []) (writers row (commits txn.before)))

  no_conflict : (number : ℕ) → first_since (length txn.before) (chain past row) ≡ None → ¬ Conflicts past txn row number
  no_conflict number none (wrote, first, newer, number_is, is) = none_before newer first (writers row (commits txn.before)) (sym (untaken none) ∙ is)

-- ---- what was found

-- what is found among the rows that an active transaction wrote says whether it is the first committer
pub found_says : (level : Level) (past : Past) (txn : Txn) (asker : Asker) (found : Option Conflict) → IsAsker level past txn asker
    → IsLeastTaken (λ row. first_since asker.running.now.before (chain_in asker.situation.now.rows row)) asker.running.now.written.items found
    → IsFirstTaken past txn found
found_says level past txn asker found asks least = at found least
  where
    taken_is : (row : Row) → first_since asker.running.now.before (chain_in asker.situation.now.rows row) ≡ first_since (length txn.before) (chain past row)
    taken_is row = ap (λ n. first_since n (chain_in asker.situation.now.rows row)) asks.running.before ∙ ap (first_since (length txn.before)) (asks.situation.rows.chains row)

    since : (row : Row) → SinceThen row past txn.before
    since row = since_begin past asker.session txn row asks.active

    at : (found : Option Conflict) → IsLeastTaken (λ row. first_since asker.running.now.before (chain_in asker.situation.now.rows row)) asker.running.now.written.items found
        → IsFirstTaken past txn found
    at None l = λ row wrote. untaken past txn row (since row) (sym (taken_is row) ∙ l row (asks.running.written row ∙ wrote))
    at (Some conflict) l = (
      l.0,
      conflicts past txn conflict.row (since conflict.row) conflict.by (sym (asks.running.written conflict.row) ∙ l.1) (sym (taken_is conflict.row) ∙ l.2),
      λ other number below c. no_conflict past txn other (since other) number (sym (taken_is other) ∙ l.3 other below (asks.running.written other ∙ c.0)) c,
    )

-- who is the first committer has no conflict by what it wrote
pub none_taken : (past : Past) (txn : Txn) (row : Row) (number : ℕ) → IsFirstCommitter (commits past) txn → ¬ Conflicts past txn row number
none_taken past txn row number first (wrote, by, newer, number_is, is) = none_before newer by (writers row (commits txn.before)) (sym (first row wrote) ∙ is)

-- ---- what the rules ask

-- the two kinds are different
pub kinds_apart : ¬ (Write ≡ Read)
kinds_apart same = cc

-- where writes clash the first conflict by what was written is the first of all, where no lower row has one by what was read
pub first_by_write : (level : Level) (setup : Table) (past : Past) (txn : Txn) (first : Conflict) → (rules_of level).write_clashes ≡ true → IsFirstTaken past txn (Some first)
    → ((other : Row) (number : ℕ) → IsBelow other first.row → ¬ ConflictsBy level setup past txn Read other number) → IsFirstConflict level setup past txn first.kind first.row first.by
first_by_write level setup past txn first clashes taken unread =
    (subst (λ kind. ConflictsBy level setup past txn kind first.row first.by) (sym taken.0) (subst (λ b. If b (Conflicts past txn first.row first.by)) (sym clashes) taken.1), none_before)
  where
    before : (other : ConflictKind) (another : Row) (number : ℕ) → ComesFirst other another Write first.row → ¬ ConflictsBy level setup past txn other another number
    before Write another number (inl below) clash = taken.2 another number below (subst (λ b. If b (Conflicts past txn another number)) clashes clash)
    before Read another number (inl below) clash = unread another number below clash
    before other another number (inr (_, _, same)) clash = kinds_apart same

    none_before : (other : ConflictKind) (another : Row) (number : ℕ) → ComesFirst other another first.kind first.row → ¬ ConflictsBy level setup past txn other another number
    none_before other another number earlier = before other another number (subst (λ kind. ComesFirst other another kind first.row) taken.0 earlier)
