-- Chains of installed versions: what they say of the versions at a begin.
use Rattle.lab_engine.{proofs.{Common.{active, ap, append_assoc, arith, Began, chain, chain_after, commits, commits_after, Committed, cond, false, first_since, if_any, installed_by, installers, is_some, last_before, last_installed, le-ltb, length, length-append, List, LogEvent, longer, lt-ltb, map, map-append, None, Option, option_or, Outcome, Past, refl, reverse, reverse-append, reverse-reverse, Row, Some, subst, sym, true≢false, Txn, unwrap_or, Version, version_by, writers, ℕ, [], ◌++◌, ◌==◌, ◌∙◌, ◌∷◌, ◌≡◌, ◌≤◌}, Begins.{begins_hold}}, specs.declared.row_state.Installed.{Installed}}

module _ (row : Row) (P : List Installed → Option Version → List Txn → Type 0) (event : LogEvent) (past : Past) where
  -- what holds of a row's chain, its last version and its writers holds after an event, where it holds with a version more
  pub chain_on : P (chain past row) (last_installed (commits past) row) (writers row (commits past))
      → ((t : Txn) (v : Version) → P (record { version = v; by = t.no; place = length past } ∷ chain past row) (Some v) (t ∷ writers row (commits past)))
      → P (chain (event ∷ past) row) (last_installed (commits (event ∷ past)) row) (writers row (commits (event ∷ past)))
  chain_on before more = by event.outcome (active past event.session)
    where
      at : (t : Txn) (v : Option Version) → P (longer t.no (length past) v (chain past row)) (option_or v (last_installed (commits past) row))
          (cond (is_some v) (t ∷ writers row (commits past)) (writers row (commits past)))
      at t None = before
      at t (Some v) = more t v

      by : (outcome : Outcome) (act : Option Txn) → P (chain_after outcome act (length past) row (chain past row)) (last_installed (commits_after outcome act (commits past)) row)
          (writers row (commits_after outcome act (commits past)))
      by Committed (Some t) = at t (version_by t row)
      by other act = before

-- ---- what a chain says

-- nobody has installed a row from a place behind all on
none_since : (row : Row) (n : ℕ) (past : Past) → length past ≤ n → first_since n (chain past row) ≡ None
none_since row n [] within = refl
none_since row n (event ∷ past) within = chain_on row (λ c _ _. first_since n c ≡ None) event past (none_since row n past (omega (arith, within)))
    (λ t v. ap (λ b. cond b None (Some (unwrap_or (first_since n (chain past row)) t.no))) (lt-ltb (length past) n (omega (arith, within))))

-- the number of the last one of a list
abbrev pub last_no : List Txn → Option ℕ
last_no [] = None
last_no (t ∷ ts) = Some (unwrap_or (last_no ts) t.no)

-- a row's chain and its writers say who has installed the row since an earlier moment
pub record IsSince (row : Row) (before : Past) (c : List Installed) (those : List Txn) : Type 0 where
  pub newer : List Txn
  pub writers_are : those ≡ newer ++ writers row (commits before)
  pub first_is : first_since (length before) c ≡ last_no newer

-- so they do after a past
abbrev pub SinceThen : Row → Past → Past → Type 0
SinceThen row past before = IsSince row before (chain past row) (writers row (commits past))

since_then : (row : Row) (before since : Past) → SinceThen row (since ++ before) before
since_then row before [] = record { newer = []; writers_are = refl; first_is = none_since row (length before) before (omega arith) }
since_then row before (event ∷ since) =
    let was = since_then row before since in
    let c : List Installed = chain (since ++ before) row in
    chain_on row (λ c _ those. IsSince row before c those) event (since ++ before) was (λ t v. record {
      newer = t ∷ was.newer;
      writers_are = ap (λ (l : List Txn). t ∷ l) was.writers_are;
      first_is = ap (λ b. cond b None (Some (unwrap_or (first_since (length before) c) t.no))) (le-ltb (length (since ++ before)) (length before) (omega (arith, length-append since before)))
          ∙ ap (λ o. Some (unwrap_or o t.no)) was.first_is;
    })

-- a past goes on from an active transaction's begin
before_now : (past : Past) (session : ℕ) (txn : Txn) → active past session ≡ Some txn → (since : Past) × (past ≡ since ++ txn.before)
before_now past session txn is =
    let b : Began past txn = begins_hold past session txn is in (b.since ++ b.event ∷ [], b.past_is ∙ sym (append_assoc b.since (b.event ∷ []) txn.before))

-- so it says who has since then
pub since_begin : (past : Past) (session : ℕ) (txn : Txn) (row : Row) → active past session ≡ Some txn → SinceThen row past txn.before
since_begin past session txn row is = let front = before_now past session txn is in subst (λ (p : Past). SinceThen row p txn.before) (sym front.1) (since_then row txn.before front.0)

-- ---- the versions at a begin

module _ (row : Row) where
  -- before a place behind all, the last version of a chain is the last that was installed
  pub last_in : (n : ℕ) (past : Past) → length past ≤ n → last_before n (chain past row) ≡ last_installed (commits past) row
  last_in n [] within = refl
  last_in n (event ∷ past) within = chain_on row (λ c last _. last_before n c ≡ last) event past (last_in n past (omega (arith, within)))
      (λ t v. ap (λ b. cond b (Some v) (last_before n (chain past row))) (lt-ltb (length past) n (omega (arith, within))))

  -- so is it before the place of an earlier moment
  last_then : (before since : Past) → last_before (length before) (chain (since ++ before) row) ≡ last_installed (commits before) row
  last_then before [] = last_in (length before) before (omega arith)
  last_then before (event ∷ since) =
      let was = last_then before since in
      chain_on row (λ c _ _. last_before (length before) c ≡ last_installed (commits before) row) event (since ++ before) was (λ t v.
      ap (λ b. cond b (Some v) (last_before (length before) (chain (since ++ before) row))) (le-ltb (length (since ++ before)) (length before) (omega (arith, length-append since before))) ∙ was)

-- before the place of an active transaction's begin, a row's chain ends with the version that was installed last at the begin
pub last_at_begin : (past : Past) (session : ℕ) (txn : Txn) (row : Row) → active past session ≡ Some txn → last_before (length txn.before) (chain past row) ≡ last_installed (commits txn.before) row
last_at_begin past session txn row is =
    let front = before_now past session txn is in
    subst (λ (p : Past). last_before (length txn.before) (chain p row) ≡ last_installed (commits txn.before) row) (sym front.1) (last_then row txn.before front.0)

-- ---- who installed

by_in : (row : Row) (past : Past) → map (λ i. i.by) (chain past row) ≡ map (λ t. t.no) (writers row (commits past))
by_in row [] = refl
by_in row (event ∷ past) = chain_on row (λ c _ those. map (λ i. i.by) c ≡ map (λ t. t.no) those) event past (by_in row past) (λ t v. ap (λ l. t.no ∷ l) (by_in row past))

-- a row's chain names its installers
pub installed_in : (row : Row) (past : Past) → installed_by (chain past row) ≡ installers past row
installed_in row past = ap reverse (by_in row past)

reverse_map : {A B : Type 0} (f : A → B) (xs : List A) → map f (reverse xs) ≡ reverse (map f xs)
reverse_map f [] = refl
reverse_map f (x ∷ xs) =
    ap (map f) (reverse-append (x ∷ []) xs) ∙ map-append f (reverse xs) (x ∷ []) ∙ ap (λ l. l ++ f x ∷ []) (reverse_map f xs) ∙ sym (reverse-append (f x ∷ []) (map f xs))

-- installed versions in order name those who installed them
pub named_by : (installed chain : List Installed) → reverse installed ≡ chain → map (λ i. i.by) installed ≡ installed_by chain
named_by installed chain is =
    sym (reverse-reverse (map (λ i. i.by) installed)) ∙ ap reverse (sym (reverse_map (λ i. i.by) installed)) ∙ ap (λ c. reverse (map (λ (i : Installed). i.by) c)) is

-- where there are versions, somebody installed them
pub some_named : (installed : List Installed) → (length installed == 0) ≡ false → Some (map (λ i. i.by) installed) ≡ if_any (map (λ i. i.by) installed)
some_named [] some = absurd (true≢false some)
some_named (i ∷ installed) some = refl
