-- Which waiting sessions are retryable.
use Rattle.lab_engine.{proofs.{Common.{ap, AreWaits, arith, cases_eq, DescribesSession, inl, inr, is_some, IsRetryable, IsSome, Level, List, Past, SessionState, some_is, some_of, subst, sym, Table, waiting, ℕ, ◌+◌, ◌∙◌, ◌≡◌, ◌≤◌}, Circles.{released_retryable, retryable_released}}, specs.Released.{IsReleased}}

-- a state that waits and is released is that of a retryable session
pub state_retryable : (level : Level) (setup : Table) (past : Past) (waits : List ℕ) (state : SessionState) → DescribesSession level past state → AreWaits level setup past waits
    → IsSome state.waits × IsReleased waits state.session → IsRetryable level setup past state.session
state_retryable level setup past waits state d h (some, released) =
    let s = some_of (waiting past state.session) (sym (ap is_some d.waits) ∙ some) in
    released_retryable level setup past waits state.session s.0 h s.1 released

-- and none other is
pub state_released : (level : Level) (setup : Table) (past : Past) (waits : List ℕ) (state : SessionState) → DescribesSession level past state → AreWaits level setup past waits
    → IsRetryable level setup past state.session → IsSome state.waits × IsReleased waits state.session
state_released level setup past waits state d h r = (ap is_some d.waits ∙ some_is (waiting past state.session) r.0 r.1, retryable_released level setup past waits state.session h r)

-- one more session that isn't retryable
pub none_step : (level : Level) (setup : Table) (past : Past) (i session : ℕ) → session ≡ i + 1 → ((other : ℕ) → other ≤ i → IsRetryable level setup past other → ⊥) → (IsRetryable level setup past session → ⊥)
    → (other : ℕ) → other ≤ i + 1 → IsRetryable level setup past other → ⊥
none_step level setup past i session at none own other le r = elim (cases_eq other session) [
  | inl same ↦ own (subst (IsRetryable level setup past) same r)
  | inr apart ↦ none other (omega (arith, le, at, apart)) r
]
