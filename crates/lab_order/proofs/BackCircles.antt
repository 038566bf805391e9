-- There is one cycle on the way back from the least that no order can place.
use Rattle.std.{proofs.{Common.{◌≡◌, ◌⊎◌, inl, inr, ℕ, suc, refl, sym, ap, subst, ◌∙◌, arith, List, [], ◌∷◌, ◌++◌, reverse}, lemmas.{Bool.{cases_order}, List.{reverse-append, reverse-reverse, Elements.{All-head}}}}, specs.List.{All}}
use Rattle.lab_order.{specs.{Arrows.{Arrows, IsArrow}, Knots.{IsLeastStuck, IsBack, ComesBack, IsMet, IsBackCircle}, Least.{IsLess}, Trails.{IsTrailBy}}, proofs.Least.{not_both}}
use Rattle.lab_order.specs.Back as back

module _ {X : Type 0} where
  -- one of these
  abbrev pub IsOf : X → List X → Type 0
  IsOf x [] = ⊥
  IsOf x (y ∷ ys) = (y ≡ x) ⊎ IsOf x ys

  -- one of a list with one more
  of_pushed : (x y : X) (ys : List X) → IsOf x (ys ++ y ∷ []) → IsOf x ys ⊎ (y ≡ x)
  of_pushed x y [] (inl same) = inr same
  of_pushed x y [] (inr none) = absurd none
  of_pushed x y (z ∷ zs) (inl same) = inl (inl same)
  of_pushed x y (z ∷ zs) (inr there) = at (of_pushed x y zs there)
    where
      at : IsOf x zs ⊎ (y ≡ x) → IsOf x (z ∷ zs) ⊎ (y ≡ x)
      at (inl of) = inl (inr of)
      at (inr same) = inr same

  of_last : (x : X) (ys : List X) → IsOf x (ys ++ x ∷ [])
  of_last x [] = inl refl
  of_last x (y ∷ ys) = inr (of_last x ys)

  -- one of a list read backwards
  of_reverse : (x : X) (ys : List X) → IsOf x (reverse ys) → IsOf x ys
  of_reverse x [] of = of
  of_reverse x (y ∷ ys) of = at (of_reverse x ys) (of_pushed x y (reverse ys) (subst (IsOf x) (reverse-append (y ∷ []) ys) of))
    where
      at : (IsOf x (reverse ys) → IsOf x ys) → IsOf x (reverse ys) ⊎ (y ≡ x) → IsOf x (y ∷ ys)
      at rest (inl of) = inr (rest of)
      at rest (inr same) = inl same

  of_all : (P : X → Type 0) (x : X) (ys : List X) → All P ys → IsOf x ys → P x
  of_all P x [] all of = absurd of
  of_all P x (y ∷ ys) all (inl same) = subst P same (all 0 y (omega arith))
  of_all P x (y ∷ ys) all (inr of) = of_all P x ys (λ k d lt. all (suc k) d (omega arith)) of

module _ {X : Type 0} (IsLower IsArrow : X → X → Type 0) where
  abbrev Steps : X → X → Type 0
  Steps from x = IsBack IsLower IsArrow from x

  abbrev Comes : X → List X → X → Type 0
  Comes x way to = ComesBack IsLower IsArrow x way to

  abbrev Goes : List X → Type 0
  Goes circle = IsBackCircle IsLower IsArrow circle

  -- one comes back by one step more
  pub comes_on : (x : X) (way : List X) (to next : X) → Comes x way to → Steps next to → Comes x (way ++ next ∷ []) next
  comes_on x [] to next same step = (subst (Steps next) (sym same) step, refl)
  comes_on x (y ∷ ys) to next back step = (back.0, comes_on y ys to next back.1 step)

  -- a trail of steps back, read from its end
  read_back : (a : X) (xs : List X) (b : X) → IsTrailBy Steps a xs b → Comes b (reverse xs ++ a ∷ []) a
  read_back a [] b t = (t, refl)
  read_back a (x ∷ xs) b t =
      subst (λ ys. Comes b (ys ++ a ∷ []) a) (sym (reverse-append (x ∷ []) xs)) (comes_on b (reverse xs ++ x ∷ []) x a (read_back x xs b t.1) t.0)

  -- from each of a way one comes to its end
  to_end : (a : X) (way : List X) (end x : X) → Comes a way end → IsOf x way → (zs : List X) × Comes x zs end
  to_end a [] end x h none = absurd none
  to_end a (n ∷ ns) end x h (inl is) = (ns, subst (λ k. Comes k ns end) is h.1)
  to_end a (n ∷ ns) end x h (inr of) = to_end n ns end x h.1 of

  -- the cycle, read backwards from its first to the first
  pub goes_round : (first : X) (others : List X) → Goes (first ∷ others) → Comes first (reverse others ++ first ∷ []) first
  goes_round first others h = read_back first others first h.back

  -- the first is it, or less
  no_less : (first : X) (others : List X) → Goes (first ∷ others) → (x : X) → IsOf x (reverse others ++ first ∷ []) → (first ≡ x) ⊎ IsLower first x
  no_less first others h x of = at (of_pushed x first (reverse others) of)
    where
      at : IsOf x (reverse others) ⊎ (first ≡ x) → (first ≡ x) ⊎ IsLower first x
      at (inl there) = inr (of_all (IsLower first) x others h.first (of_reverse x others there))
      at (inr same) = inl same

  pub first_met : (first : X) (others : List X) → Goes (first ∷ others) → IsMet IsLower IsArrow first
  first_met first others h = All-head (IsMet IsLower IsArrow) first others h.met

  module _ (cases : (a b : X) → (a ≡ b) ⊎ IsLower a b ⊎ IsLower b a) (never : (a b : X) → IsLower a b → IsLower b a → ⊥) where
    -- back from one comes one
    back_one : (x a b : X) → Steps a x → Steps b x → a ≡ b
    back_one x a b h k = elim (cases a b) [
      | inl same ↦ same
      | inr o ↦ elim o [ inl less ↦ absurd (k.least a less h.arrow h.stuck) | inr more ↦ absurd (h.least b more k.arrow k.stuck) ]
    ]

    -- the least stuck one is one
    start_one : (a b : X) → IsLeastStuck IsLower IsArrow a → IsLeastStuck IsLower IsArrow b → a ≡ b
    start_one a b h k = elim (cases a b) [
      | inl same ↦ same
      | inr o ↦ elim o [ inl less ↦ absurd (k.least a less h.stuck) | inr more ↦ absurd (h.least b more k.stuck) ]
    ]

    -- of two to which one comes back from one, one comes from one back to the other
    one_behind : (x : X) (xs : List X) (a : X) (ys : List X) (b : X) → Comes x xs a → Comes x ys b → ((zs : List X) × Comes a zs b) ⊎ ((zs : List X) × Comes b zs a)
    one_behind x [] a ys b h k = inl (ys, subst (λ n. Comes n ys b) h k)
    one_behind x (m ∷ ms) a [] b h k = inr (m ∷ ms, subst (λ n. Comes n (m ∷ ms) a) k h)
    one_behind x (m ∷ ms) a (n ∷ ns) b h k = one_behind m ms a ns b h.1 (subst (λ n. Comes n ns b) (sym (back_one x m n h.0 k.0)) k.1)

    -- what comes back from one of a way is on it, but at its end
    step_on : (a : X) (way : List X) (end x y : X) → Comes a way end → IsOf x (a ∷ way) → Steps y x → IsOf y way ⊎ (x ≡ end)
    step_on a [] end x y same (inl is) step = inr (sym is ∙ same)
    step_on a [] end x y same (inr none) step = absurd none
    step_on a (n ∷ ns) end x y h (inl is) step = inl (inl (back_one x n y (subst (Steps n) is h.0) step))
    step_on a (n ∷ ns) end x y h (inr of) step = at (step_on n ns end x y h.1 of step)
      where
        at : IsOf y ns ⊎ (x ≡ end) → IsOf y (n ∷ ns) ⊎ (x ≡ end)
        at (inl there) = inl (inr there)
        at (inr is) = inr is

    -- on a way that comes to its beginning again one stays
    stays_on : (a : X) (way : List X) → Comes a way a → (x y : X) → IsOf x way → Steps y x → IsOf y way
    stays_on a way h x y of step = at way h of (step_on a way a x y h (inr of) step)
      where
        at : (ns : List X) → Comes a ns a → IsOf x ns → IsOf y ns ⊎ (x ≡ a) → IsOf y ns
        at [] back none found = absurd none
        at (n ∷ ns) back there (inl found) = found
        at (n ∷ ns) back there (inr is) = inl (back_one a n y back.0 (subst (Steps y) is step))

    stays_along : (a : X) (way : List X) → Comes a way a → (x : X) (zs : List X) (y : X) → IsOf x way → Comes x zs y → IsOf y way
    stays_along a way h x [] y of same = subst (λ n. IsOf n way) same of
    stays_along a way h x (z ∷ zs) y of back = stays_along a way h z zs y (stays_on a way h x z of back.0) back.1

    -- two ways from one to the same, which neither passes before, are one
    pub one_way : (x end : X) (ws vs : List X) → Comes x (ws ++ end ∷ []) end → Comes x (vs ++ end ∷ []) end → (IsOf end ws → ⊥) → (IsOf end vs → ⊥) → ws ≡ vs
    one_way x end [] [] h k p q = refl
    one_way x end [] (v ∷ vs) h k p q = absurd (q (inl (back_one x v end k.0 h.0)))
    one_way x end (w ∷ ws) [] h k p q = absurd (p (inl (back_one x w end h.0 k.0)))
    one_way x end (w ∷ ws) (v ∷ vs) h k p q =
        let same : w ≡ v = back_one x w v h.0 k.0 in
        ap (λ y. y ∷ ws) same
        ∙ ap (λ ys. v ∷ ys) (one_way w end ws vs h.1 (subst (λ n. Comes n (vs ++ end ∷ []) end) (sym same) k.1) (λ of. p (inr of)) (λ of. q (inr of)))

    -- the first isn't there again
    pub not_again : (first : X) (others : List X) → Goes (first ∷ others) → IsOf first (reverse others) → ⊥
    not_again first others h of = let less = of_all (IsLower first) first others h.first (of_reverse first others of) in never first first less less

    -- where one comes from the first of one cycle back to the first of another, they begin alike
    alike_behind : (a : X) (ns : List X) (b : X) (ms : List X) → Goes (a ∷ ns) → Goes (b ∷ ms) → (zs : List X) → Comes a zs b → a ≡ b
    alike_behind a ns b ms h k zs back =
        let on : IsOf b (reverse ns ++ a ∷ []) = stays_along a (reverse ns ++ a ∷ []) (goes_round a ns h) a zs b (of_last a (reverse ns)) back in
        let on_to : (ys : List X) × Comes b ys a = to_end a (reverse ns ++ a ∷ []) a b (goes_round a ns h) on in
        let there : IsOf a (reverse ms ++ b ∷ []) = stays_along b (reverse ms ++ b ∷ []) (goes_round b ms k) b on_to.0 a (of_last b (reverse ms)) on_to.1 in
        at (no_less a ns h b on) (no_less b ms k a there)
      where
        at : (a ≡ b) ⊎ IsLower a b → (b ≡ a) ⊎ IsLower b a → a ≡ b
        at (inl same) any = same
        at (inr less) (inl same) = sym same
        at (inr less) (inr more) = absurd (never a b less more)

    begin_alike : (a : X) (ns : List X) (b : X) (ms : List X) → Goes (a ∷ ns) → Goes (b ∷ ms) → a ≡ b
    begin_alike a ns b ms h k = from_one (first_met a ns h) (first_met b ms k)
      where
        at : ((zs : List X) × Comes a zs b) ⊎ ((zs : List X) × Comes b zs a) → a ≡ b
        at (inl (zs, back)) = alike_behind a ns b ms h k zs back
        at (inr (zs, back)) = sym (alike_behind b ms a ns k h zs back)

        from_one : IsMet IsLower IsArrow a → IsMet IsLower IsArrow b → a ≡ b
        from_one p q = at (one_behind p.start p.way a q.way b p.back (subst (λ n. Comes n q.way b) (start_one q.start p.start q.least p.least) q.back))

    -- so there is one
    pub one_circle : (ns ms : List X) → Goes ns → Goes ms → ns ≡ ms
    one_circle [] ms h k = absurd h.back
    one_circle (a ∷ ns) [] h k = absurd k.back
    one_circle (a ∷ ns) (b ∷ ms) h k =
        let same : a ≡ b = begin_alike a ns b ms h k in
        let k' : Goes (a ∷ ms) = subst (λ n. Goes (n ∷ ms)) (sym same) k in
        let turned : reverse ns ≡ reverse ms = one_way a a (reverse ns) (reverse ms) (goes_round a ns h) (goes_round a ms k') (not_again a ns h) (not_again a ms k') in
        ap (λ x. x ∷ ns) same ∙ ap (λ xs. b ∷ xs) (sym (reverse-reverse ns) ∙ ap reverse turned ∙ reverse-reverse ms)

-- a graph has one such cycle
pub one_of_graph : (graph : Arrows) (ns ms : List ℕ) → back.IsBackCircle graph ns → back.IsBackCircle graph ms → ns ≡ ms
one_of_graph graph ns ms h k = one_circle IsLess (IsArrow graph) cases_order not_both ns ms h k
