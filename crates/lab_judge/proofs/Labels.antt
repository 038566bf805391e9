-- Things that are labels of other things, as transactions are of nodes: an order of the ones is one of the others.
use Rattle.std.proofs.Common.{◌≡◌, ℕ, suc, ◌+◌, ◌<◌, ◌≤◌, Bool, true, false, cond, List, [], ◌∷◌, get_or, map, refl, sym, ap, ◌∙◌, subst, arith, inl, inr}
use Rattle.std.specs.{Prelude.{Decides}, List.{All, count_by}}
use Rattle.std.proofs.lemmas.{Bool.{both_ways, Decides.{same_from_decides, Decides-like}}, Simd.{map-map}, List.{Folds.{map_fixed}, Elements.{All-head, All-tail}, Recursion.{is_count_by}, Sums.{sum_by-cons, get_or-le-sum_by}}}
use Rattle.lab_order.specs.Least.{NotAfterBy}

-- when two are the same, where one stands in a list, which are there, and that arrows are between these alone
pub record AreThings {X : Type 0} (same : X → X → Bool) (place : List X → X → ℕ) (there : X → Bool) (IsArrow : X → X → Type 0) : Type 0 where
  pub decides : (x y : X) → Decides (same x y) (x ≡ y)
  pub next : (y : X) (ys : List X) (x : X) → place (y ∷ ys) x ≡ cond (same y x) 0 (suc (place ys x))
  pub ends : (x y : X) → IsArrow x y → (there x ≡ true) × (there y ≡ true)

-- each that is there stands in the list once, no other does, and every arrow points forward
pub record IsOrderOf {X : Type 0} (same : X → X → Bool) (place : List X → X → ℕ) (there : X → Bool) (IsArrow : X → X → Type 0) (xs : List X) : Type 0 where
  pub each_once : (x : X) → count_by (λ y. same y x) xs ≡ cond (there x) 1 0
  pub forward : (x y : X) → IsArrow x y → place xs x < place xs y

-- each that is there has a label that is, and back, and so has each arrow
pub record AreLabels {X Y : Type 0} (there_x : X → Bool) (ArrowX : X → X → Type 0) (there_y : Y → Bool) (ArrowY : Y → Y → Type 0) (f : X → Y) (g : Y → X) : Type 0 where
  pub goes : (x : X) → there_x x ≡ true → there_y (f x) ≡ true
  pub comes : (y : Y) → there_y y ≡ true → there_x (g y) ≡ true
  pub back : (x : X) → there_x x ≡ true → g (f x) ≡ x
  pub again : (y : Y) → there_y y ≡ true → f (g y) ≡ y
  pub to : (x z : X) → ArrowX x z → ArrowY (f x) (f z)
  pub from : (y z : Y) → ArrowY y z → ArrowX (g y) (g z)

-- the labels' labels are the things
pub turned : {X Y : Type 0} {there_x : X → Bool} {ArrowX : X → X → Type 0} {there_y : Y → Bool} {ArrowY : Y → Y → Type 0} {f : X → Y} {g : Y → X}
    → AreLabels there_x ArrowX there_y ArrowY f g → AreLabels there_y ArrowY there_x ArrowX g f
turned l = record { goes = l.comes; comes = l.goes; back = l.again; again = l.back; to = l.from; from = l.to }

-- what stands in an order is there
pub all_there : {X : Type 0} {same : X → X → Bool} {place : List X → X → ℕ} {there : X → Bool} {IsArrow : X → X → Type 0} → AreThings same place there IsArrow
    → (xs : List X) → IsOrderOf same place there IsArrow xs → All (λ x. there x ≡ true) xs
all_there {X = X} {same = same} {there = there} things xs o k d lt = at (get_or xs k d) (there (get_or xs k d)) (o.each_once (get_or xs k d)) (get_or-le-sum_by _ xs k d lt)
  where
    at : (x : X) (b : Bool) → count_by (λ y. same y x) xs ≡ cond b 1 0 → cond (same x x) 1 0 ≤ count_by (λ y. same y x) xs → b ≡ true
    at x true is some = refl
    at x false is some =
        let many : 1 ≤ count_by (λ y. same y x) xs = subst (λ t. cond t 1 0 ≤ count_by (λ y. same y x) xs) ((things.decides x x).1 refl) some in
        absurd (omega (arith, is, many))

module _ {X Y : Type 0} (f : X → Y) (p : Y → Bool) (q : X → Bool) where
  -- counting in a list that is mapped
  counts : (xs : List X) → All (λ x. p (f x) ≡ q x) xs → count_by p (map f xs) ≡ count_by q xs
  counts [] all = refl
  counts (x ∷ xs) all =
      sum_by-cons (λ y. cond (p y) 1 0) (f x) (map f xs) ∙ ap (λ b. cond b 1 0 + count_by p (map f xs)) (All-head (λ x. p (f x) ≡ q x) x xs all)
      ∙ ap (λ k. cond (q x) 1 0 + k) (counts xs (All-tail (λ x. p (f x) ≡ q x) x xs all)) ∙ sym (sum_by-cons (λ y. cond (q y) 1 0) x xs)

module _ {X Y : Type 0} {same_x : X → X → Bool} {place_x : List X → X → ℕ} {there_x : X → Bool} {ArrowX : X → X → Type 0} (xt : AreThings same_x place_x there_x ArrowX)
    {same_y : Y → Y → Bool} {place_y : List Y → Y → ℕ} {there_y : Y → Bool} {ArrowY : Y → Y → Type 0} (yt : AreThings same_y place_y there_y ArrowY)
    (none : (x : X) (y : Y) → place_y [] y ≡ place_x [] x) (f : X → Y) (g : Y → X) (l : AreLabels there_x ArrowX there_y ArrowY f g) where
  -- whether a thing has this label
  alike : (x : X) (y : Y) → there_x x ≡ true → there_y y ≡ true → same_y (f x) y ≡ same_x x (g y)
  alike x y here there =
      same_from_decides (same_y (f x) y) (same_x x (g y)) (yt.decides (f x) y)
      (Decides-like (same_x x (g y)) (λ e. ap f e ∙ l.again y there) (λ e. sym (l.back x here) ∙ ap g e) (xt.decides x (g y)))

  -- the place of a label is that of its thing
  places : (y : Y) → there_y y ≡ true → (xs : List X) → All (λ x. there_x x ≡ true) xs → place_y (map f xs) y ≡ place_x xs (g y)
  places y there [] all = none (g y) y
  places y there (x ∷ xs) all =
      yt.next (f x) (map f xs) y ∙ ap (λ b. cond b 0 (suc (place_y (map f xs) y))) (alike x y (All-head (λ x. there_x x ≡ true) x xs all) there)
      ∙ ap (λ k. cond (same_x x (g y)) 0 (suc k)) (places y there xs (All-tail (λ x. there_x x ≡ true) x xs all)) ∙ sym (xt.next x xs (g y))

  module _ (xs : List X) (o : IsOrderOf same_x place_x there_x ArrowX xs) where
    pub place_is : (y : Y) → there_y y ≡ true → place_y (map f xs) y ≡ place_x xs (g y)
    place_is y there = places y there xs (all_there xt xs o)

    once : (y : Y) (b : Bool) → there_y y ≡ b → count_by (λ z. same_y z y) (map f xs) ≡ cond b 1 0
    once y true there =
        counts f (λ z. same_y z y) (λ x. same_x x (g y)) xs (λ k d lt. alike (get_or xs k d) y (all_there xt xs o k d lt) there)
        ∙ o.each_once (g y) ∙ ap (λ b. cond b 1 0) (l.comes y there)
    once y false there = counts f (λ z. same_y z y) (λ x. false) xs (λ k d lt. other (get_or xs k d) (all_there xt xs o k d lt) (same_y (f (get_or xs k d)) y) refl) ∙ sym (is_count_by (λ _. 0) (λ x. false) refl (λ _ _. refl) xs)
      where
        other : (x : X) → there_x x ≡ true → (b : Bool) → same_y (f x) y ≡ b → b ≡ false
        other x here true e = absurd (both_ways (there_y y) there (sym (ap there_y ((yt.decides (f x) y).0 e)) ∙ l.goes x here))
        other x here false e = refl

    -- the labels of an order are one
    pub labelled : IsOrderOf same_y place_y there_y ArrowY (map f xs)
    labelled = record {
      each_once = λ y. once y (there_y y) refl;
      forward = λ y z arrow.
          let both = yt.ends y z arrow in
          omega (arith, place_is y both.0, place_is z both.1, o.forward (g y) (g z) (l.from y z arrow));
    }

module _ {X Y : Type 0} (there : X → Bool) (IsLessX : X → X → Type 0) (IsLessY : Y → Y → Type 0) (f : X → Y)
    (rises : (x z : X) → there z ≡ true → IsLessX x z → IsLessY (f x) (f z)) where
  -- where labels rise, lists compare as the lists of their labels
  pub compared : (xs zs : List X) → All (λ x. there x ≡ true) zs → NotAfterBy IsLessX xs zs → NotAfterBy IsLessY (map f xs) (map f zs)
  compared [] zs all l = tt
  compared (x ∷ xs) [] all l = l
  compared (x ∷ xs) (z ∷ zs) all l = elim l [
    | inl less ↦ inl (rises x z (All-head (λ x. there x ≡ true) z zs all) less)
    | inr w ↦ inr (ap f w.0, compared xs zs (All-tail (λ x. there x ≡ true) z zs all) w.1)
  ]

-- the things of labels have these labels
pub labels_again : {X Y : Type 0} (there : Y → Bool) (f : X → Y) (g : Y → X) → ((y : Y) → there y ≡ true → f (g y) ≡ y) → (ys : List Y) → All (λ y. there y ≡ true) ys → map f (map g ys) ≡ ys
labels_again there f g again ys all = map-map f g ys ∙ map_fixed (λ y. f (g y)) ys (λ k d lt. again (get_or ys k d) (all k d lt))

module _ {X Y : Type 0} {same_x : X → X → Bool} {place_x : List X → X → ℕ} {there_x : X → Bool} {ArrowX : X → X → Type 0} (xt : AreThings same_x place_x there_x ArrowX)
    {same_y : Y → Y → Bool} {place_y : List Y → Y → ℕ} {there_y : Y → Bool} {ArrowY : Y → Y → Type 0} (yt : AreThings same_y place_y there_y ArrowY)
    (none : (x : X) (y : Y) → place_y [] y ≡ place_x [] x) (f : X → Y) (g : Y → X) (l : AreLabels there_x ArrowX there_y ArrowY f g) where
  -- where labels rise, those of the least order come after no other order
  pub not_after : (LessX : X → X → Type 0) (LessY : Y → Y → Type 0) → ((x z : X) → there_x z ≡ true → LessX x z → LessY (f x) (f z))
      → (xs : List X) → ((zs : List X) → IsOrderOf same_x place_x there_x ArrowX zs → NotAfterBy LessX xs zs)
      → (ys : List Y) → IsOrderOf same_y place_y there_y ArrowY ys → NotAfterBy LessY (map f xs) ys
  not_after LessX LessY rises xs least ys o =
      let zs = labelled yt xt (λ y x. sym (none x y)) g f (turned l) ys o in
      subst (NotAfterBy LessY (map f xs)) (labels_again there_y f g l.again ys (all_there yt ys o))
      (compared there_x LessX LessY f rises xs (map g ys) (all_there xt (map g ys) zs) (least (map g ys) zs))
