-- The transactions of a log after one more event.
use Rattle.lab_engine.{proofs.{Common.{active, AllNumbered, ap, arith, Begun, begun, Bool, changed, changed_by, Command, commits, commits_after, Committed, committed, cond, end_of, eq-eqb, false, GatheredTxn, get_or, has_number, IsLegal, IsWithin, length, Level, List, list_any, Listed, map as each, map-append, ne_eqb, new_txn, number_of, numbers_from, Op, op_of, ops_of, Option, Outcome, Past, Permitted, recorded, Recorded, recorded_txn, recorded_txns, refl, Rows, set, Some, subst, suc, sym, Table, true, Txn, txns_after, View, with_ops, Writes, zero, ℕ, [], ◌++◌, ◌+◌, ◌-◌, ◌<◌, ◌==◌, ◌||◌, ◌∙◌, ◌∷◌, ◌≡◌, ◌≢◌, ◌≤◌}, Numbers.{numbers_hold}, Records.{nothing_added, records_hold}, GatheredNumbers.{numbers_more}}, specs.Recording.{has_committed}}
use Rattle.lab_history.specs.declared.transaction.Outcome.TheVariants.{Aborted as EndAborted, Committed as EndCommitted}

-- ---- transactions

-- a gathered transaction is changed at its place
set_changed : (h : Recorded → Recorded) (txns : List GatheredTxn) (k : ℕ) (new d : GatheredTxn) → k < length txns → recorded new ≡ h (recorded (get_or txns k d))
    → each recorded (set txns k new) ≡ changed k h (each recorded txns)
set_changed h [] k new d few is = absurd (omega arith)
set_changed h (t ∷ txns) zero new d few is = ap (λ r. r ∷ each recorded txns) is
set_changed h (t ∷ txns) (suc k) new d few is = ap (λ l. recorded t ∷ l) (set_changed h txns k new d (omega arith) is)

-- so is the one with a number
pub set_by : (h : Recorded → Recorded) (txns : List GatheredTxn) (by : Option ℕ) (number place : ℕ) (new old : GatheredTxn) → by ≡ Some number → place ≡ number - 1 → old ≡ get_or txns place old
    → IsWithin by (length txns)
    → recorded new ≡ h (recorded old) → each recorded (set txns place new) ≡ changed_by by h (each recorded txns)
set_by h txns by number place new old is at found within changes =
    let few : number - 1 < length txns = subst (λ o. IsWithin o (length txns)) is within in
    ap (λ k. each recorded (set txns k new)) at
    ∙ set_changed h txns (number - 1) new old few (changes ∙ ap (λ (t : GatheredTxn). h (recorded t)) (found ∙ ap (λ k. get_or txns k old) at))
    ∙ ap (λ o. changed_by o h (each recorded txns)) (sym is)

above : (f g : ℕ → Recorded) (first count : ℕ) → ((n : ℕ) → first ≤ n → g n ≡ f n) → each g (numbers_from first count) ≡ each f (numbers_from first count)
above f g first zero same = refl
above f g first (suc count) same =
    ap (λ r. r ∷ each g (numbers_from (suc first) count)) (same first (omega arith)) ∙ ap (λ l. f first ∷ l) (above f g (suc first) count (λ n low. same n (omega (arith, low))))

-- what is made of numbers changes where one is made of otherwise
changed_at : (f g : ℕ → Recorded) (h : Recorded → Recorded) (first count i : ℕ) → ((n : ℕ) → n ≢ first + i → g n ≡ f n) → g (first + i) ≡ h (f (first + i))
    → each g (numbers_from first count) ≡ changed i h (each f (numbers_from first count))
changed_at f g h first zero zero others own = refl
changed_at f g h first zero (suc i) others own = refl
changed_at f g h first (suc count) zero others own =
    let here : first + 0 ≡ first = omega arith in
    ap (λ r. r ∷ each g (numbers_from (suc first) count)) (subst (λ k. g k ≡ h (f k)) here own)
    ∙ ap (λ l. h (f first) ∷ l) (above f g (suc first) count (λ n low. others n (λ same. absurd (omega (arith, same, low)))))
changed_at f g h first (suc count) (suc i) others own =
    let there : first + suc i ≡ suc first + i = omega arith in
    ap (λ r. r ∷ each g (numbers_from (suc first) count)) (others first (λ same. absurd (omega (arith, same))))
    ∙ ap (λ l. f first ∷ l) (changed_at f g h (suc first) count i (λ n apart. others n (λ same. apart (same ∙ there))) (subst (λ k. g k ≡ h (f k)) there own))

-- a transaction to whose operations nothing is added
same_txn : (past : Past) (n : ℕ) (b : Bool) → record { no = n; outcome = end_of past n; ops = ops_of past n ++ cond b [] [] } ≡ recorded_txn past n
same_txn past n b = λ i. record { no = n; outcome = end_of past n; ops = nothing_added (ops_of past n) b i }

not_among : (m n : ℕ) (txns : List Txn) → AllNumbered m txns → m < n → list_any (λ (t : Txn). t.no == n) txns ≡ false
not_among m n [] all high = refl
not_among m n (t ∷ txns) all high =
    ap (λ b. b || list_any (λ (t : Txn). t.no == n) txns) (ne_eqb t.no n (λ same. absurd (omega (arith, same, all.0.1, high)))) ∙ not_among m n txns all.1 high

module _ (level : Level) (setup : Table) (past : Past) (legal : IsLegal level setup past) (session : ℕ) (command : Command) where
  -- a number that nobody had yet
  fresh : (n : ℕ) → begun past < n → recorded_txn past n ≡ new_txn n
  fresh n high = λ i. record {
    no = n;
    outcome = cond (not_among (begun past) n (commits past) (numbers_hold level setup past legal).done_numbered high i) EndCommitted EndAborted;
    ops = (records_hold level setup past legal).none_above n high i;
  }

  -- the log with an event
  abbrev after : Outcome → Past
  after outcome = record { session = session; command = command; outcome = outcome } ∷ past

  begins : (n : ℕ) → n ≡ begun past + 1 → recorded_txns (after (Begun n)) ≡ recorded_txns past ++ new_txn n ∷ []
  begins n next =
      let more : begun past + 1 ≡ suc (begun past) = omega arith in
      let own : 1 + begun past ≡ n = omega (arith, next) in
      (λ i. each (λ k. same_txn past k (has_number k (active past session)) i) (numbers_from 1 (more i)))
      ∙ ap (each (recorded_txn past)) (numbers_more 1 (begun past)) ∙ map-append (recorded_txn past) (numbers_from 1 (begun past)) ((1 + begun past) ∷ [])
      ∙ ap (λ r. recorded_txns past ++ r ∷ []) (ap (recorded_txn past) own ∙ fresh n (omega (arith, next)))

  -- the active transaction of the session goes on by an event
  goes : (outcome : Outcome) (t : Txn) (h : Recorded → Recorded) → begun (after outcome) ≡ begun past → active past session ≡ Some t
      → ((n : ℕ) → recorded_txn (after outcome) n ≡ cond (t.no == n) (h (recorded_txn past n)) (recorded_txn past n))
      → recorded_txns (after outcome) ≡ changed_by (number_of (active past session)) h (recorded_txns past)
  goes outcome t h same is by =
      let place : 1 + (t.no - 1) ≡ t.no = omega (arith, ((numbers_hold level setup past legal).numbered session t is).0) in
      ap (λ k. each (recorded_txn (after outcome)) (numbers_from 1 k)) same
      ∙ changed_at (recorded_txn past) (recorded_txn (after outcome)) h 1 (begun past) (t.no - 1)
      (λ n apart. by n ∙ ap (λ b. cond b (h (recorded_txn past n)) (recorded_txn past n)) (ne_eqb t.no n (λ e. apart (sym e ∙ sym place))))
      (subst (λ k. recorded_txn (after outcome) k ≡ h (recorded_txn past k)) (sym place)
      (by t.no ∙ ap (λ b. cond b (h (recorded_txn past t.no)) (recorded_txn past t.no)) (eq-eqb t.no t.no refl)))
      ∙ ap (λ o. changed_by (number_of o) h (recorded_txns past)) (sym is)

  runs : (view : View) (rows : Rows) (writes : Writes) (t : Txn) → active past session ≡ Some t
      → recorded_txns (after (Listed view rows writes)) ≡ changed_by (number_of (active past session)) (with_ops (op_of command (Listed view rows writes))) (recorded_txns past)
  runs view rows writes t is = goes (Listed view rows writes) t (with_ops new) refl is (λ n. ap (λ o. added n (has_number n o)) is ∙ at n (t.no == n))
    where
      new : List Op
      new = op_of command (Listed view rows writes)

      added : ℕ → Bool → Recorded
      added n b = record { no = n; outcome = end_of past n; ops = ops_of past n ++ cond b new [] }

      at : (n : ℕ) (b : Bool) → added n b ≡ cond b (with_ops new (recorded_txn past n)) (recorded_txn past n)
      at n true = refl
      at n false = same_txn past n false

  commit : (t : Txn) → active past session ≡ Some t → recorded_txns (after Committed) ≡ changed_by (number_of (active past session)) committed (recorded_txns past)
  commit t is = goes Committed t committed refl is (λ n. ap (ended n) is ∙ at n (t.no == n))
    where
      ended : ℕ → Option Txn → Recorded
      ended n o = record { no = n; outcome = cond (list_any (λ u. u.no == n) (commits_after Committed o (commits past))) EndCommitted EndAborted; ops = ops_of past n ++ cond (has_number n o) [] [] }

      at : (n : ℕ) (b : Bool) → record { no = n; outcome = cond (b || has_committed past n) EndCommitted EndAborted; ops = ops_of past n ++ cond b [] [] }
          ≡ cond b (committed (recorded_txn past n)) (recorded_txn past n)
      at n true = ap committed (same_txn past n true)
      at n false = same_txn past n false

  -- the transactions after one more event
  pub txns_goes : (outcome : Outcome) → Permitted level setup past session command outcome
      → recorded_txns (after outcome) ≡ txns_after command outcome (number_of (active past session)) (recorded_txns past)
  txns_goes (Begun n) (is_begin, none, next) = begins n next
  txns_goes (Listed view rows writes) (s, t, asks, free, effect) = runs view rows writes t asks.active_is
  txns_goes Committed (t, gives, may) = commit t gives.active_is
  txns_goes other permitted = λ i. each (λ n. same_txn past n (has_number n (active past session)) i) (numbers_from 1 (begun past))
