-- Some of the sessions, by rising number.
use Rattle.lab_engine.proofs.Common.{ap, arith, Bool, cond, false, filter, IsStrictlyIncreasing, List, refl, SessionState, slice_index, subst, suc, true, zero, [], ℕ, ⊤, ◌+◌, ◌<◌, ◌∷◌, ◌≡◌, map}

-- numbers that rise from above a bound
abbrev pub RiseFrom : ℕ → List ℕ → Type 0
RiseFrom low [] = ⊤
RiseFrom low (x ∷ xs) = (low < x) × RiseFrom x xs

-- they increase strictly
pub rising : (low : ℕ) (xs : List ℕ) → RiseFrom low xs → IsStrictlyIncreasing xs
rising low (x ∷ y ∷ zs) h zero lt = h.1.0
rising low (x ∷ y ∷ zs) h (suc k) lt =
    let next : suc (k + 1) ≡ suc k + 1 = omega arith in
    subst (λ n. slice_index (y ∷ zs) k < slice_index (x ∷ y ∷ zs) n) next (rising x (y ∷ zs) h.1 k (omega arith))
rising low xs h k lt = absurd (omega arith)

-- the sessions of states
abbrev pub sessions_of : List SessionState → List ℕ
sessions_of states = map (λ state. state.session) states

-- the sessions of those that are kept
pub kept_sessions : (p : ℕ → Bool) (states : List SessionState) → sessions_of (filter (λ state. p state.session) states) ≡ filter p (sessions_of states)
kept_sessions p [] = refl
kept_sessions p (state ∷ states) =
    let rest : List SessionState = filter (λ state. p state.session) states in
    elim (p state.session) as (λ b. sessions_of (cond b (state ∷ rest) rest) ≡ cond b (state.session ∷ filter p (sessions_of states)) (filter p (sessions_of states))) [
      | true ↦ ap (λ l. state.session ∷ l) (kept_sessions p states)
      | false ↦ kept_sessions p states
    ]
