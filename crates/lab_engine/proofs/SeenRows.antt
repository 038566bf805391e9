-- What an active transaction sees of a situation.
use Rattle.lab_engine.proofs.{Common.{active, ap, arith, Asker, Bool, chain, chain_in, commits, cond, false, initial_version, IsAsker, last_before, last_installed, length, Level, None, Option, option_or, Past, refl, Row, seen, seen_in, sees_as_of_begin, sight, Some, Statement, true, Txn, unwrap_or, Version, version_by, would_write, written_by, ℕ, ◌∙◌, ◌≡◌}, InstalledChains.{last_at_begin, last_in}}

-- the first of two that is there, or else a third
either_or : {A : Type 0} (a b : Option A) (c : A) → unwrap_or (option_or a b) c ≡ unwrap_or a (unwrap_or b c)
either_or None b c = refl
either_or (Some x) b c = refl

-- the last version installed before what a transaction sees
last_seen : (begin : Bool) (past : Past) (session : ℕ) (txn : Txn) (row : Row) → active past session ≡ Some txn
    → last_before (length (cond begin txn.before past)) (chain past row) ≡ last_installed (commits (cond begin txn.before past)) row
last_seen true past session txn row own = last_at_begin past session txn row own
last_seen false past session txn row own = last_in row (length past) past (omega arith)

module _ (level : Level) (past : Past) (txn : Txn) (asker : Asker) (is : IsAsker level past txn asker) where
  -- a row's version: its own, else the last one installed before that
  pub seen_is : (row : Row) → seen_in asker row ≡ seen level asker.setup.now past txn row
  seen_is row =
      let first : Row → Version = λ row. initial_version asker.setup.now row in
      ap (λ o. unwrap_or (option_or o (last_before asker.sees_before (chain_in asker.situation.now.rows row))) (first row))
      (is.situation.rows.pending row asker.session ∙ ap (λ t. written_by t row) is.active)
      ∙ ap (λ o. unwrap_or (option_or (version_by txn row) o) (first row))
      (ap (last_before asker.sees_before) (is.situation.rows.chains row) ∙ ap (λ n. last_before n (chain past row)) is.sees_before ∙ last_seen (sees_as_of_begin level) past asker.session txn row is.active)
      ∙ either_or (version_by txn row) (last_installed (commits (sight level past txn)) row) (first row)

  -- whether a statement would write it
  pub writes_is : (s : Statement) (row : Row) → would_write s row (seen_in asker row).state ≡ would_write s row (seen level asker.setup.now past txn row).state
  writes_is s row = ap (λ (v : Version). would_write s row v.state) (seen_is row)
