-- Cells of nodes tell of the kinds between their transactions.
use Rattle.std.{proofs.{Common.{◌≡◌, ◌+◌, ◌*◌, ◌-◌, ◌<◌, ◌≤◌, ℕ, Some, List, take, drop, get_or, sym, ap, ◌∙◌, subst, arith}, lemmas.{Bool.{false≢true}, List.{get_or-take, get_or-drop}}}, specs.Prelude.{Contains, slice_get}}
use Rattle.lab_deps.{specs.{KindBits.{has_bit, bits_at, bits_of, place}, KindsBetween.{AreKinds, IsTold}, declared.edge.Edge.{Edge}}, proofs.ExactArrows.{no_bit, held}}

-- where the greatest of some cells is 0, each of them is
pub bare_cells : (cs : List ℕ) (start first beyond most : ℕ) → ((k : ℕ) → get_or (take (beyond - first) (drop first (drop start cs))) k 0 ≤ most) → most ≡ 0
    → (to : ℕ) → first ≤ to → to < beyond → get_or cs (start + to) 0 ≡ 0
bare_cells cs start first beyond most each none to from before =
    let back : first + (to - first) ≡ to = omega (arith, from) in
    let part : get_or (take (beyond - first) (drop first (drop start cs))) (to - first) 0 ≡ get_or cs (start + to) 0 =
    get_or-take (beyond - first) (drop first (drop start cs)) (to - first) 0 (omega (arith, from, before))
    ∙ (get_or-drop first (drop start cs) (to - first) 0 ∙ (ap (λ k. get_or (drop start cs) k 0) back ∙ get_or-drop start cs to 0)) in
    omega (arith, part, each (to - first), none)

module _ (es : List Edge) (ns ps : List ℕ) (w : ℕ) (cs : List ℕ) (told : IsTold es ns ps w cs) (i j n m : ℕ) (from : slice_get ns i ≡ Some n) (to : slice_get ns j ≡ Some m) where
  -- the bits between two nodes are those of their transactions
  bits_are : bits_of ps w cs n m ≡ bits_at w cs (i + 1) (j + 1)
  bits_are = ap (λ p. bits_at w cs p (place ps m)) (told.at i n from) ∙ ap (bits_at w cs (i + 1)) (told.at j m to)

  pub kinds_are : (bits : ℕ) → bits ≡ bits_at w cs (i + 1) (j + 1) → AreKinds es n m (record { bits = bits })
  kinds_are bits is = subst (λ b. AreKinds es n m (record { bits = b })) (bits_are ∙ sym is) (told.exact n m)

  -- where their cell is empty, there is no dependency
  pub none_there : get_or cs (((i + 1) * w + 1) + j) 0 ≡ 0 → (e : Edge) → Contains es e → e.from ≡ n → e.to ≡ m → ⊥
  none_there empty e there begins ends =
      let at : ((i + 1) * w + 1) + j ≡ (i + 1) * w + (j + 1) = next ((i + 1) * w) in
      let bits : bits_of ps w cs e.from e.to ≡ bits_at w cs (i + 1) (j + 1) = ap (λ k. bits_of ps w cs k e.to) begins ∙ (ap (bits_of ps w cs n) ends ∙ bits_are) in
      let has = held (i + 1) (j + 1) (get_or cs ((i + 1) * w + (j + 1)) 0) e.kind (sym (ap (λ b. has_bit b e.kind) bits) ∙ (told.exact e.from e.to e.kind).1 (e.row, there)) in
      false≢true (sym (no_bit e.kind) ∙ (ap (λ b. has_bit b e.kind) (sym (sym (ap (λ k. get_or cs k 0) at) ∙ empty)) ∙ has.3))
    where
      next : (k : ℕ) → (k + 1) + j ≡ k + (j + 1)
      next k = omega arith
