-- What is gathered goes on with the log.
use Rattle.lab_engine.proofs.{Common.{active, active_after, ap, AreActive, arith, begun, Command, cond, eqb_tells, false, Gathering, Gathers, inl, inr, is_fatal, IsLegal, IsWithin, length, length-map, Level, List, Listed, LogEvent, map as each, None, number_after, number_of, of_session, Option, Outcome, Past, recorded, refl, Refused, same_Some, Some, subst, sym, Table, true, Txn, txns_after, ℕ, ◌==◌, ◌∙◌, ◌∷◌, ◌≡◌, ◌≤◌, other_value, own_value}, GatheredNumbers.{recorded_length}, Numbers.{numbers_hold}, TxnsAfterEvents.{txns_goes}}

-- ---- the numbers of the active transactions

number_goes : (command : Command) (outcome : Outcome) (past : Past) (txn : Option Txn) → number_of (active_after command outcome past txn) ≡ number_after outcome (number_of txn)
number_goes command (Listed view rows writes) past None = refl
number_goes command (Refused fault) past txn = elim (is_fatal fault) as (λ b. number_of (cond b None txn) ≡ cond b None (number_of txn)) [ true ↦ refl | false ↦ refl ]
number_goes command other past txn = refl

-- they are kept by an event
pub active_goes : (past : Past) (event : LogEvent) (numbers news : List (Option ℕ)) (next : Option ℕ) → AreActive past numbers → next ≡ number_after event.outcome (number_of (active past event.session))
    → ((s : ℕ) → of_session news s ≡ cond (s == event.session) (Some next) (of_session numbers s)) → AreActive (event ∷ past) news
active_goes past event numbers news next are made each session low high = elim (eqb_tells event.session session) [
  | inl p ↦
      own_value numbers news event.session next each session (sym p.1)
      ∙ ap Some (made ∙ sym (number_goes event.command event.outcome past (active past event.session))
      ∙ ap (λ s. number_of (active_after event.command event.outcome past (active past s))) p.1
      ∙ sym (ap (λ b. number_of (cond b (active_after event.command event.outcome past (active past session)) (active past session))) p.0))
  | inr p ↦
      other_value numbers news event.session next each session (λ same. p.1 (sym same)) ∙ are session low high
      ∙ sym (ap (λ b. Some (number_of (cond b (active_after event.command event.outcome past (active past session)) (active past session)))) p.0)
]

-- ---- gathered transactions

module _ (level : Level) (setup : Table) (past : Past) (event : LogEvent) (old : Gathering) (tells : Gathers past old) (legal : IsLegal level setup (event ∷ past)) (low : 1 ≤ event.session)
    (high : event.session ≤ 9) (by : Option ℕ) (kept : of_session old.active event.session ≡ Some by) where
  -- the number that is kept is the active transaction's
  by_is : by ≡ number_of (active past event.session)
  by_is = same_Some by _ (sym kept ∙ tells.active event.session low high)

  count : length old.txns.items ≡ begun past
  count = sym (length-map old.txns.items recorded) ∙ ap length tells.txns ∙ recorded_length past

  -- it is in range
  pub is_within : IsWithin by (length old.txns.items)
  is_within = subst (λ by. IsWithin by (length old.txns.items)) (sym by_is) (here (active past event.session) refl) where
    here : (w : Option Txn) → active past event.session ≡ w → IsWithin (number_of w) (length old.txns.items)
    here None is = tt
    here (Some t) is = let in_range = (numbers_hold level setup past legal.0).numbered event.session t is in omega (arith, in_range.0, in_range.1, count)

  -- what is gathered with the event
  pub gathers_by : (new : Gathering) (next : Option ℕ) → next ≡ number_after event.outcome by → ((s : ℕ) → of_session new.active s ≡ cond (s == event.session) (Some next) (of_session old.active s))
      → each recorded new.txns.items ≡ txns_after event.command event.outcome by (each recorded old.txns.items) → Gathers (event ∷ past) new
  gathers_by new next made goes gone = record {
    active = active_goes past event old.active new.active next tells.active (made ∙ ap (number_after event.outcome) by_is) goes;
    txns = gone ∙ (λ i. txns_after event.command event.outcome (by_is i) (tells.txns i)) ∙ sym (txns_goes level setup past legal.0 event.session event.command event.outcome legal.1);
  }
