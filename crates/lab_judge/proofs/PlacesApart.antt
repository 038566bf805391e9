-- No place is of two: of spans whose places each tell the one point that has them.
use Rattle.std.{proofs.{Common.{◌≡◌, ◌⊎◌, ℕ, zero, suc, ◌+◌, ◌≤◌, Some, List, [], ◌∷◌, map, refl, ap, ◌∙◌, subst, arith, inl, inr}, lemmas.Option.{same_Some, none-some, slice_get_within, slice_get-map, get_or_from_slice_get}}, specs.{Prelude.{slice_get, option_map}, List.{All}}}
use Rattle.lab_deps.proofs.Places.{times, at_most_once}
use Rattle.lab_judge.{specs.{LeastPlaces.{txn_of}, Runs.{Span, all_places}, declared.places.Point.{Point, TheVariants.{Start, Commit}}}, proofs.Lists.{one_place}}

-- the transactions of spans
abbrev pub owners : List Span → List ℕ
owners spans = map (λ s. s.txn) spans

pub owner_at : (ss : List Span) (i : ℕ) (s : Span) → slice_get ss i ≡ Some s → slice_get (owners ss) i ≡ Some s.txn
owner_at ss i s at = slice_get-map (λ s. s.txn) ss i ∙ ap (λ o. option_map (λ s. s.txn) o) at

-- a span's commit stands among all places behind its start
pub commit_at : (ss : List Span) (i : ℕ) (s : Span) → slice_get ss i ≡ Some s → slice_get (all_places ss) (suc (i + i)) ≡ Some s.commit
commit_at [] i s at = absurd (none-some s at)
commit_at (t ∷ ss) zero s at = ap (λ (x : Span). Some x.commit) (same_Some t s at)
commit_at (t ∷ ss) (suc i) s at = let more : suc (suc i + suc i) ≡ suc (suc (suc (i + i))) = omega arith in ap (slice_get (all_places (t ∷ ss))) more ∙ commit_at ss i s at

-- what stands among all places is a start or a commit
abbrev IsOf : List Span → ℕ → ℕ → Type 0
IsOf ss p x = (i : ℕ) × (s : Span) × (slice_get ss i ≡ Some s) × (((p ≡ i + i) × (s.start ≡ x)) ⊎ ((p ≡ suc (i + i)) × (s.commit ≡ x)))

whose : (ss : List Span) (p x : ℕ) → slice_get (all_places ss) p ≡ Some x → IsOf ss p x
whose [] p x h = absurd (none-some x h)
whose (s ∷ ss) zero x h = (0, s, refl, inl (refl, same_Some s.start x h))
whose (s ∷ ss) (suc zero) x h = (0, s, refl, inr (refl, same_Some s.commit x h))
whose (s ∷ ss) (suc (suc p)) x h = further (whose ss p x h)
  where
    further : IsOf ss p x → IsOf (s ∷ ss) (suc (suc p)) x
    further (i, t, at, inl (e, is)) = (suc i, t, at, inl (omega (arith, e), is))
    further (i, t, at, inr (e, is)) = (suc i, t, at, inr (omega (arith, e), is))

-- a span's places tell its start and its commit
abbrev pub IsTold : (ℕ → Point → Type 0) → Span → Type 0
IsTold Tells s = Tells s.start (Start s.txn) × Tells s.commit (Commit s.txn)

-- a commit is one behind a start
abbrev behind : Point → ℕ
behind (Start n) = 0
behind (Commit n) = 1

module _ (Tells : ℕ → Point → Type 0) (one : (x : ℕ) (p q : Point) → Tells x p → Tells x q → p ≡ q) (ss : List Span) (told : All (IsTold Tells) ss) where
  point : (p x : ℕ) → IsOf ss p x → (q : Point) × Tells x q × (i : ℕ) × (slice_get (owners ss) i ≡ Some (txn_of q)) × (p ≡ i + i + behind q)
  point p x (i, s, at, kind) = elim kind [
    | inl a ↦ (Start s.txn, subst (λ k. Tells k (Start s.txn)) a.1 own.0, i, owner_at ss i s at, omega (arith, a.0))
    | inr a ↦ (Commit s.txn, subst (λ k. Tells k (Commit s.txn)) a.1 own.1, i, owner_at ss i s at, omega (arith, a.0))
  ]
    where
      own : IsTold Tells s
      own = subst (IsTold Tells) (get_or_from_slice_get ss i s s at) (told i s (slice_get_within ss i s at))

  -- so no place is of two points
  pub apart : ((n : ℕ) → times n (owners ss) ≤ 1) → (x : ℕ) → times x (all_places ss) ≤ 1
  apart few x = at_most_once (all_places ss) x (λ p q h k.
      let a = point p x (whose ss p x h) in
      let b = point q x (whose ss q x k) in
      let same : a.0 ≡ b.0 = one x a.0 b.0 a.1 b.1 in
      let place : a.2 ≡ b.2 = one_place (owners ss) a.2 b.2 (txn_of b.0) (few (txn_of b.0)) (a.3 ∙ ap (λ r. Some (txn_of r)) same) b.3 in
      omega (arith, a.4, b.4, place, ap behind same))
