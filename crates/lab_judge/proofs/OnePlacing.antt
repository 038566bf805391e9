-- There is one least placing of the points of a history.
use Rattle.std.{proofs.{Common.{◌≡◌, ◌⊎◌, suc, List, [], ◌∷◌, length, get_or, map, drop, refl, sym, ap, ◌∙◌, subst, arith, inl, inr}, lemmas.Bool.{cases_order}}, specs.Prelude.{Contains}}
use Rattle.lab_order.proofs.Least.{one_least_by}
use Rattle.lab_history.specs.History.{History}
use Rattle.lab_judge.{specs.{LeastPlaces.{label, IsLower, IsPointOrder, IsLeastPointOrder, ArePlacedAlong, place_in}, Runs.{HoldsEachOnce, Span}, declared.places.Point.{Point, TheVariants.{Start, Commit}}}, proofs.OneWalk.{one_committed}}

-- points of one label are one
pub one_label : (p q : Point) → label p ≡ label q → p ≡ q
one_label (Start m) (Start n) e = ap Start (omega (arith, e))
one_label (Commit m) (Commit n) e = ap Commit (omega (arith, e))
one_label p q e = absurd (omega (arith, e))

-- of two points one at most is lower
pub not_both : (p q : Point) → IsLower p q → IsLower q p → ⊥
not_both p q l k = omega (arith, l, k)

-- and of two that aren't one, one is
pub lower_cases : (p q : Point) → (p ≡ q) ⊎ IsLower p q ⊎ IsLower q p
lower_cases p q = elim (cases_order (label p) (label q)) [ inl same ↦ inl (one_label p q same) | inr o ↦ inr o ]

-- a span has its places along an order
abbrev pub IsPlaced : List Point → Span → Type 0
IsPlaced points s = (s.start ≡ place_in points (Start s.txn)) × (s.commit ≡ place_in points (Commit s.txn))

one_span : (points : List Point) (s t : Span) → s.txn ≡ t.txn → IsPlaced points s → IsPlaced points t → s ≡ t
one_span points s t same a b =
    let start : s.start ≡ t.start = a.0 ∙ ap (λ n. place_in points (Start n)) same ∙ sym b.0 in
    let commit : s.commit ≡ t.commit = a.1 ∙ ap (λ n. place_in points (Commit n)) same ∙ sym b.1 in
    λ i. record { txn = same i; start = start i; commit = commit i }

-- the same transactions along one order have one placing
one_placing : (points : List Point) (ss ts : List Span) → map (λ s. s.txn) ss ≡ map (λ s. s.txn) ts → ((s : Span) → Contains ss s → IsPlaced points s)
    → ((t : Span) → Contains ts t → IsPlaced points t) → ss ≡ ts
one_placing points [] [] same a b = refl
one_placing points (s ∷ ss) (t ∷ ts) same a b =
    let first : s ≡ t = one_span points s t (ap (λ l. get_or l 0 0) same) (a s (0, omega arith, refl)) (b t (0, omega arith, refl)) in
    let rest : ss ≡ ts = one_placing points ss ts (ap (drop 1) same) (λ r c. a r (suc c.0, (omega (arith, c.1)), c.2)) (λ r c. b r (suc c.0, (omega (arith, c.1)), c.2)) in
    λ i. first i ∷ rest i
one_placing points ss ts same a b = let size = ap length same in absurd (omega (arith, size))

-- so a history has one least placing
pub one_least_placing : (h : History) (one other : List Span) → HoldsEachOnce h (map (λ s. s.txn) one) → HoldsEachOnce h (map (λ s. s.txn) other)
    → (points : List Point) × IsLeastPointOrder h points × ArePlacedAlong points one → (points : List Point) × IsLeastPointOrder h points × ArePlacedAlong points other → one ≡ other
one_least_placing h one other a b (ps, l, placed_one) (qs, k, placed_other) =
    let same : ps ≡ qs = one_least_by IsLower not_both (IsPointOrder h) ps qs l k in
    let along : ArePlacedAlong ps other = subst (λ points. ArePlacedAlong points other) (sym same) placed_other in
    one_placing ps one other
    (one_committed h (map (λ s. s.txn) one) (map (λ s. s.txn) other) (record { each_once = a; rising = placed_one.rising }) (record { each_once = b; rising = along.rising }))
    (λ s c. placed_one.placed s c) (λ s c. along.placed s c)
