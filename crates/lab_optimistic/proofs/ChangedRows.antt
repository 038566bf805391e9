-- Chains of installed versions: who was the first since a begin to install a row with a change that passes a test.
use Rattle.std.proofs.Common.{◌≡◌, ℕ, ◌≤◌, ◌<◌, refl, sym, ap, subst, ◌∙◌, arith, Bool, cond, List, [], ◌∷◌, ◌++◌, length, length-append, append_assoc, lt-ltb, le-ltb, Option, Some, None, unwrap_or}
use Rattle.lab_engine.proofs.{Common.{option_or, Row, State, Table, get, Past, Version, Txn, active, commits, commits_after, version_by, last_installed, initial_version, Began, longer, chain_after, chain}, Begins.{begins_hold}}
use Rattle.lab_engine.specs.{declared.{event.Outcome.{Outcome, TheVariants.{Committed}}, row_state.Installed.{Installed}}, Rules.{state_after}}
use Rattle.lab_optimistic.specs.Changes.{state_of, first_change}

-- ---- the first of a list that changed a row

module _ (setup : Table) (row : Row) (test : State → State → Bool) where
  -- the number of one that wrote this version of the row, if any, when these had committed, where the test passes
  abbrev pub changed_by : List Txn → ℕ → Option Version → Option ℕ
  changed_by earlier number None = None
  changed_by earlier number (Some v) = cond (test (state_after setup earlier row) v.state) (Some number) None

  -- the first of a list, the last to commit first, of which it does; base had committed before them
  abbrev pub first_changing : List Txn → List Txn → Option ℕ
  first_changing [] base = None
  first_changing (by ∷ earlier) base = option_or (first_changing earlier base) (changed_by (earlier ++ base) by.no (version_by by row))

or_nothing : (o : Option ℕ) → option_or o None ≡ o
or_nothing None = refl
or_nothing (Some n) = refl

-- those that committed in these events after a moment
abbrev meanwhile : Past → Past → List Txn
meanwhile [] before = []
meanwhile (event ∷ since) before = commits_after event.outcome (active (since ++ before) event.session) (meanwhile since before)

-- they stand before those that had committed
also : (outcome : Outcome) (act : Option Txn) (since base : List Txn) → commits_after outcome act (since ++ base) ≡ commits_after outcome act since ++ base
also Committed None since base = refl
also Committed (Some t) since base = refl
also other act since base = refl

commits_since : (since before : Past) → commits (since ++ before) ≡ meanwhile since before ++ commits before
commits_since [] before = refl
commits_since (event ∷ since) before =
    ap (commits_after event.outcome (active (since ++ before) event.session)) (commits_since since before)
    ∙ also event.outcome (active (since ++ before) event.session) (meanwhile since before) (commits before)

-- ---- a row's chain

module _ (setup : Table) (row : Row) where
  state_then : (outcome : Outcome) (act : Option Txn) (place : ℕ) (c : List Installed) (txns : List Txn) → state_of (get setup row) c ≡ state_after setup txns row
      → state_of (get setup row) (chain_after outcome act place row c) ≡ state_after setup (commits_after outcome act txns) row
  state_then Committed (Some t) place c txns is = at (version_by t row) refl where
    at : (v : Option Version) → version_by t row ≡ v → state_of (get setup row) (longer t.no place v c) ≡ state_after setup (t ∷ txns) row
    at None none = is ∙ sym (ap (λ o. (unwrap_or (option_or o (last_installed txns row)) (initial_version setup row)).state) none)
    at (Some v) some = sym (ap (λ o. (unwrap_or (option_or o (last_installed txns row)) (initial_version setup row)).state) some)
  state_then other act place c txns is = is

  -- it leaves the row in the state in which those that have committed left it
  state_is : (past : Past) → state_of (get setup row) (chain past row) ≡ state_after setup (commits past) row
  state_is [] = refl
  state_is (event ∷ past) = state_then event.outcome (active past event.session) (length past) (chain past row) (commits past) (state_is past)

  module _ (test : State → State → Bool) where
    none_from : (n : ℕ) (outcome : Outcome) (act : Option Txn) (place : ℕ) (c : List Installed) → place < n → first_change test (get setup row) n c ≡ None
        → first_change test (get setup row) n (chain_after outcome act place row c) ≡ None
    none_from n Committed (Some t) place c below is = at (version_by t row) where
      at : (v : Option Version) → first_change test (get setup row) n (longer t.no place v c) ≡ None
      at None = is
      at (Some v) =
          ap (λ b. cond b None (option_or (first_change test (get setup row) n c) (cond (test (state_of (get setup row) c) v.state) (Some t.no) None))) (lt-ltb place n below)
    none_from n other act place c below is = is

    -- nobody has changed it from a place behind all on
    none_since : (n : ℕ) (past : Past) → length past ≤ n → first_change test (get setup row) n (chain past row) ≡ None
    none_since n [] within = refl
    none_since n (event ∷ past) within =
        none_from n event.outcome (active past event.session) (length past) (chain past row) (omega (arith, within)) (none_since n past (omega (arith, within)))

    one_more : (n : ℕ) (outcome : Outcome) (act : Option Txn) (place : ℕ) (c : List Installed) (since base : List Txn) → n ≤ place
        → state_of (get setup row) c ≡ state_after setup (since ++ base) row → first_change test (get setup row) n c ≡ first_changing setup row test since base
        → first_change test (get setup row) n (chain_after outcome act place row c) ≡ first_changing setup row test (commits_after outcome act since) base
    one_more n Committed (Some t) place c since base later state is = at (version_by t row) where
      at : (v : Option Version) → first_change test (get setup row) n (longer t.no place v c)
          ≡ option_or (first_changing setup row test since base) (changed_by setup row test (since ++ base) t.no v)
      at None = is ∙ sym (or_nothing (first_changing setup row test since base))
      at (Some v) =
          ap (λ b. cond b None (option_or (first_change test (get setup row) n c) (cond (test (state_of (get setup row) c) v.state) (Some t.no) None))) (le-ltb place n later)
          ∙ (λ i. option_or (is i) (cond (test (state i) v.state) (Some t.no) None))
    one_more n other act place c since base later state is = is

    -- who was the first since a moment is the first of those that committed since
    first_since : (before since : Past) → first_change test (get setup row) (length before) (chain (since ++ before) row) ≡ first_changing setup row test (meanwhile since before) (commits before)
    first_since before [] = none_since (length before) before (omega arith)
    first_since before (event ∷ since) =
        one_more (length before) event.outcome (active (since ++ before) event.session) (length (since ++ before)) (chain (since ++ before) row) (meanwhile since before) (commits before)
        (omega (arith, length-append since before)) (state_is (since ++ before) ∙ ap (λ txns. state_after setup txns row) (commits_since since before)) (first_since before since)

-- ---- since a begin

-- those that have committed since a moment, by whom each row's chain says who was the first to change it
pub record SinceThen (past before : Past) : Type 0 where
  pub since : List Txn
  pub commits_are : commits past ≡ since ++ commits before
  pub first_is : (setup : Table) (row : Row) (test : State → State → Bool) → first_change test (get setup row) (length before) (chain past row) ≡ first_changing setup row test since (commits before)

since_then : (before since : Past) → SinceThen (since ++ before) before
since_then before since = record {
  since = meanwhile since before;
  commits_are = commits_since since before;
  first_is = λ setup row test. first_since setup row test before since;
}

-- so it is of an active transaction's begin
pub since_begin : (past : Past) (session : ℕ) (txn : Txn) → active past session ≡ Some txn → SinceThen past txn.before
since_begin past session txn is =
    let b : Began past txn = begins_hold past session txn is in
    subst (λ (p : Past). SinceThen p txn.before) (append_assoc b.since (b.event ∷ []) txn.before ∙ sym b.past_is) (since_then txn.before (b.since ++ b.event ∷ []))
