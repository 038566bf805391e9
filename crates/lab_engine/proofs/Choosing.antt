-- Which sessions are chosen by a test of their active transactions.
use Rattle.lab_engine.{proofs.{Common.{active, Agree, and_comm, and_from, and_parts, ap, AreOthers, arith, Asker, Bool, both_ways, cond, Describes, eq-eqb, eqb_tells, false, has, inl, inr, IsOther, IsRunning, IsTrue, Level, List, ne_eqb, None, none_some, not, Option, or-false, Past, refl, running_of, RunningTxn, same_Some, SessionState, Situation, Some, subst, suc, sym, true≢false, Txn, ℕ, [], ◌&&◌, ◌<◌, ◌==◌, ◌||◌, ◌↔◌, ◌∙◌, ◌∷◌, ◌≡◌}, States.{all_rise, Rise}}, specs.Chosen.{has_passing, is_chosen, is_passing_other}}

-- a test says of what is kept of each active transaction whether something holds of it
abbrev pub Tells : Level → Past → (ℕ → RunningTxn → Bool) → (Txn → Type 0) → Type 0
Tells level past test holds = (other : ℕ) (txn : Txn) (running : RunningTxn) → active past other ≡ Some txn → IsRunning level txn running → IsTrue (test other running) ↔ holds txn

module _ (test : ℕ → RunningTxn → Bool) (session : ℕ) where
  -- nothing is kept of a session below those of some states
  none_below : (low n : ℕ) (states : List SessionState) → Rise low states → n < low → is_chosen test session states n ≡ false
  none_below low n [] rise less = refl
  none_below low n (state ∷ states) rise less =
      ap (λ b. (b && is_passing_other test session state) || is_chosen test session states n) (ne_eqb n state.session (λ same. absurd (omega (arith, same, rise.0, less))))
      ∙ none_below (suc low) n states rise.1 (omega arith)

  -- a session is chosen where it is another one, and what is kept of its active transaction passes
  chosen_as : (low n : ℕ) (states : List SessionState) → Rise low states → is_chosen test session states n ≡ (not (n == session) && has_passing (test n) (running_of states n))
  chosen_as low n [] rise = sym (and_comm (not (n == session)) false)
  chosen_as low n (state ∷ states) rise = elim (eqb_tells state.session n) [
    | inl p ↦
        ap (λ b. (b && is_passing_other test session state) || is_chosen test session states n) (eq-eqb n state.session (sym p.1))
        ∙ ap (λ b. is_passing_other test session state || b) (none_below (suc low) n states rise.1 (omega (arith, rise.0, p.1))) ∙ or-false (is_passing_other test session state)
        ∙ ap (λ k. not (k == session) && has_passing (test k) state.running) p.1
        ∙ sym (ap (λ b. not (n == session) && has_passing (test n) (cond b state.running (running_of states n))) p.0)
    | inr p ↦
        ap (λ b. (b && is_passing_other test session state) || is_chosen test session states n) (ne_eqb n state.session (λ same. p.1 (sym same)))
        ∙ chosen_as (suc low) n states rise.1
        ∙ sym (ap (λ b. not (n == session) && has_passing (test n) (cond b state.running (running_of states n))) p.0)
  ]

-- those are chosen of whose transactions it holds
pub chosen_is : {level : Level} (past : Past) (situation : Situation) (session : ℕ) (test : ℕ → RunningTxn → Bool) (holds : Txn → Type 0) → Describes level past situation → Tells level past test holds
    → (n : ℕ) → IsTrue (is_chosen test session situation.sessions n) ↔ IsOther past session n holds
chosen_is {level} past situation session test holds d tells n =
    subst (λ b. IsTrue b ↔ IsOther past session n holds) (sym (chosen_as test session 1 n situation.sessions (all_rise situation.sessions d.sessions)))
    (at (active past n) (running_of situation.sessions n) refl (d.states n).running)
  where
    at : (o : Option Txn) (kept : Option RunningTxn) → active past n ≡ o → Agree level o kept → IsTrue (not (n == session) && has_passing (test n) kept) ↔ IsOther past session n holds
    at None None own agree = ((λ passes. absurd (both_ways _ refl (and_parts _ _ passes).1)), (λ other. none_some _ (sym own ∙ other.2)))
    at None (Some kept) own agree = absurd agree
    at (Some txn) None own agree = absurd agree
    at (Some txn) (Some kept) own agree = (
      (λ passes.
          let parts = and_parts _ _ passes in
          (txn, (λ same. true≢false (sym parts.0 ∙ ap not (eq-eqb n session (sym same)))), own, (tells n txn kept own agree).0 parts.1)),
      (λ other. and_from _ _ (ap not (ne_eqb n session (λ same. other.1 (sym same)))) ((tells n txn kept own agree).1 (subst holds (same_Some other.0 txn (sym other.2 ∙ own)) other.3))),
    )

-- so a set of those that are chosen has them
pub others_are : {level : Level} (past : Past) (asker : Asker) (test : ℕ → RunningTxn → Bool) (holds : Txn → Type 0) (set : ℕ) → Describes level past asker.situation.now → Tells level past test holds
    → ((n : ℕ) → has set n ≡ is_chosen test asker.session asker.situation.now.sessions n) → AreOthers past asker holds set
others_are past asker test holds set d tells is n =
    subst (λ b. IsTrue b ↔ IsOther past asker.session n holds) (sym (is n)) (chosen_is past asker.situation.now asker.session test holds d tells n)

-- and has those of whom the same holds in other words
pub others_same : (past : Past) (asker : Asker) (one other : Txn → Type 0) (set : ℕ) → ((holder : Txn) → one holder ↔ other holder) → AreOthers past asker one set → AreOthers past asker other set
others_same past asker one other set same are n = (
  (λ there. let o = (are n).0 there in (o.0, o.1, o.2, (same o.0).0 o.3)),
  (λ o. (are n).1 (o.0, o.1, o.2, (same o.0).1 o.3)),
)
