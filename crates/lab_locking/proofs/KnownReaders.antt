-- Sessions that needn't be asked, since they are in a set already.
use Rattle.std.proofs.Common.{◌≡◌, ◌∙◌, ℕ, refl, sym, ap, Bool, true, false, not, ◌==◌, ◌||◌, ◌&&◌, List, [], ◌∷◌, eqb-true}
use Rattle.lab_engine.proofs.Common.{has, Option, Some, None}
use Rattle.lab_engine.specs.{Chosen.{has_passing, is_chosen, is_passing_other}, declared.session_state.{RunningTxn.{RunningTxn}, SessionState.{SessionState}}}

module _ (test : ℕ → RunningTxn → Bool) (session known n : ℕ) where
  -- whether a session that isn't in the set passes
  abbrev pub asked : ℕ → RunningTxn → Bool
  asked other running = not (has known other) && test other running

  passing_unknown : (state : SessionState) → has known state.session ≡ false → is_passing_other asked session state ≡ is_passing_other test session state
  passing_unknown state off = ap (λ b. not (state.session == session) && b) (at state.running)
    where
      at : (o : Option RunningTxn) → has_passing (asked state.session) o ≡ has_passing (test state.session) o
      at None = refl
      at (Some running) = ap (λ b. not b && test state.session running) off

  same_unknown : has known n ≡ false → (states : List SessionState) → is_chosen asked session states n ≡ is_chosen test session states n
  same_unknown off [] = refl
  same_unknown off (state ∷ states) = at (same_unknown off states) (n == state.session) refl
    where
      at : is_chosen asked session states n ≡ is_chosen test session states n → (b : Bool) → (n == state.session) ≡ b → ((b && is_passing_other asked session state) || is_chosen asked session states n) ≡ ((b && is_passing_other test session state) || is_chosen test session states n)
      at rest true same =
          ap (λ c. c || is_chosen asked session states n) (passing_unknown state (ap (has known) (sym (eqb-true n state.session same)) ∙ off))
          ∙ ap (λ c. is_passing_other test session state || c) rest
      at rest false apart = rest

  -- with the set they are those that pass, whether in the set or not
  pub all_asked : (states : List SessionState) → (has known n || is_chosen asked session states n) ≡ (has known n || is_chosen test session states n)
  all_asked states = at (has known n) refl
    where
      at : (b : Bool) → has known n ≡ b → (b || is_chosen asked session states n) ≡ (b || is_chosen test session states n)
      at true on = refl
      at false off = same_unknown off states
