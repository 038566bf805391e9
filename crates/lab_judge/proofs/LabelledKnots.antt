-- Of things and their labels: trails, what no order can place, and the cycle on the way back from it.
use Rattle.std.{proofs.{Common.{◌≡◌, suc, ◌&&◌, Bool, true, List, [], ◌∷◌, get_or, map, ap, ◌∙◌, subst, arith}, lemmas.{Bool.{and_parts, and_from}, List.Elements.{All-map, All-cons, All-nil}}}, specs.{Prelude.{IsTrue}, List.{All}}}
use Rattle.lab_order.specs.{Knots.{AreKnotted, IsStuck, IsBack, ComesBack, IsMet, IsBackCircle}, Trails.{IsTrailBy, IsRing}}
use Rattle.lab_judge.proofs.Labels.{AreLabels, turned}

-- a trail of things is one of their labels
pub trail_of : {X Y : Type 0} (StepX : X → X → Type 0) (StepY : Y → Y → Type 0) (f : X → Y) → ((x z : X) → StepX x z → StepY (f x) (f z))
    → (x : X) (xs : List X) (z : X) → IsTrailBy StepX x xs z → IsTrailBy StepY (f x) (map f xs) (f z)
trail_of StepX StepY f step x [] z s = step x z s
trail_of StepX StepY f step x (y ∷ ys) z (s, t) = (step x y s, trail_of StepX StepY f step y ys z t)

pub ring_of : {X Y : Type 0} (StepX : X → X → Type 0) (StepY : Y → Y → Type 0) (f : X → Y) → ((x z : X) → StepX x z → StepY (f x) (f z)) → (xs : List X) → IsRing StepX xs → IsRing StepY (map f xs)
ring_of StepX StepY f step [] r = r
ring_of StepX StepY f step (x ∷ xs) r = trail_of StepX StepY f step x xs x r

-- what each step begins with, all of a trail or a ring are
trail_all : {X : Type 0} (P : X → Type 0) (Step : X → X → Type 0) → ((x z : X) → Step x z → P x) → (x : X) (xs : List X) (z : X) → IsTrailBy Step x xs z → All P (x ∷ xs)
trail_all P Step begins x [] z s = All-cons P x [] (begins x z s) (All-nil P)
trail_all P Step begins x (y ∷ ys) z (s, t) = All-cons P x (y ∷ ys) (begins x y s) (trail_all P Step begins y ys z t)

pub ring_all : {X : Type 0} (P : X → Type 0) (Step : X → X → Type 0) → ((x z : X) → Step x z → P x) → (xs : List X) → IsRing Step xs → All P xs
ring_all P Step begins [] r = absurd r
ring_all P Step begins (x ∷ xs) r = trail_all P Step begins x xs x r

-- what no order can place is there
stuck_there : {X : Type 0} (there : X → Bool) (IsArrow : X → X → Type 0) → ((x y : X) → IsArrow x y → (there x ≡ true) × (there y ≡ true)) → (x : X) → IsStuck IsArrow x → there x ≡ true
stuck_there {X = X} there IsArrow ends x (these, here, knotted) = let k : (from : X) × IsTrue (these from) × IsArrow from x = knotted x here in (ends k.0 x k.2).1

-- and no order can place its label
stuck_label : {X Y : Type 0} (there_x : X → Bool) (ArrowX : X → X → Type 0) (there_y : Y → Bool) (ArrowY : Y → Y → Type 0) (f : X → Y) (g : Y → X)
    → ((x y : X) → ArrowX x y → (there_x x ≡ true) × (there_x y ≡ true)) → AreLabels there_x ArrowX there_y ArrowY f g → (x : X) → IsStuck ArrowX x → IsStuck ArrowY (f x)
stuck_label {X = X} {Y = Y} there_x ArrowX there_y ArrowY f g ends l x (these, here, knotted) = (test, own x (stuck_there there_x ArrowX ends x (these, here, knotted)) here, next)
  where
    test : Y → Bool
    test y = these (g y) && there_y y

    own : (z : X) → there_x z ≡ true → IsTrue (these z) → IsTrue (test (f z))
    own z there one = and_from (these (g (f z))) (there_y (f z)) (ap these (l.back z there) ∙ one) (l.goes z there)

    next : AreKnotted ArrowY test
    next y there =
        let parts = and_parts (these (g y)) (there_y y) there in
        let k : (from : X) × IsTrue (these from) × ArrowX from (g y) = knotted (g y) parts.0 in
        (f k.0, own k.0 (ends k.0 (g y) k.2).0 k.1, subst (ArrowY (f k.0)) (l.again y parts.1) (l.to k.0 (g y) k.2))

module _ {X Y : Type 0} (there_x : X → Bool) (ArrowX : X → X → Type 0) (there_y : Y → Bool) (ArrowY : Y → Y → Type 0) (f : X → Y) (g : Y → X)
    (ends_x : (x y : X) → ArrowX x y → (there_x x ≡ true) × (there_x y ≡ true)) (ends_y : (x y : Y) → ArrowY x y → (there_y x ≡ true) × (there_y y ≡ true))
    (l : AreLabels there_x ArrowX there_y ArrowY f g) (LessX : X → X → Type 0) (LessY : Y → Y → Type 0) (rises : (x z : X) → there_x z ≡ true → LessX x z → LessY (f x) (f z))
    (falls : (y z : Y) → there_y y ≡ true → there_y z ≡ true → LessY y z → LessX (g y) (g z)) where
  -- of a stuck label that is lower than another
  lower : (y : Y) (x : X) → IsStuck ArrowY y → there_x x ≡ true → LessY y (f x) → LessX (g y) x
  lower y x stuck there less = subst (LessX (g y)) (l.back x there) (falls y (f x) (stuck_there there_y ArrowY ends_y y stuck) (l.goes x there) less)

  stuck_thing : (y : Y) → IsStuck ArrowY y → IsStuck ArrowX (g y)
  stuck_thing = stuck_label there_y ArrowY there_x ArrowX g f ends_y (turned l)

  -- a step back of things is one of labels
  back_label : (x z : X) → IsBack LessX ArrowX x z → IsBack LessY ArrowY (f x) (f z)
  back_label x z k =
      let both = ends_x x z k.arrow in
      record {
        arrow = l.to x z k.arrow;
        stuck = stuck_label there_x ArrowX there_y ArrowY f g ends_x l x k.stuck;
        least = λ y less arrow stuck. k.least (g y) (lower y x stuck both.0 less) (subst (ArrowX (g y)) (l.back z both.1) (l.from y (f z) arrow)) (stuck_thing y stuck);
      }

  comes_back : (x : X) (way : List X) (z : X) → ComesBack LessX ArrowX x way z → ComesBack LessY ArrowY (f x) (map f way) (f z)
  comes_back x [] z same = ap f same
  comes_back x (y ∷ way) z k = (back_label y x k.0, comes_back y way z k.1)

  met_label : (x : X) → IsMet LessX ArrowX x → IsMet LessY ArrowY (f x)
  met_label x k = record {
    start = f k.start;
    least = record {
      stuck = stuck_label there_x ArrowX there_y ArrowY f g ends_x l k.start k.least.stuck;
      least = λ y less stuck. k.least.least (g y) (lower y k.start stuck (stuck_there there_x ArrowX ends_x k.start k.least.stuck) less) (stuck_thing y stuck);
    };
    way = map f k.way;
    back = comes_back k.start k.way x k.back;
  }

  -- so the cycle of things is one of labels
  pub circle_label : (xs : List X) → IsBackCircle LessX ArrowX xs → IsBackCircle LessY ArrowY (map f xs)
  circle_label [] k = absurd k.back
  circle_label (x ∷ xs) k =
      let there = ring_all (λ z. there_x z ≡ true) (IsBack LessX ArrowX) (λ y z b. (ends_x y z b.arrow).0) (x ∷ xs) k.back in
      record {
        back = ring_of (IsBack LessX ArrowX) (IsBack LessY ArrowY) f back_label (x ∷ xs) k.back;
        first = All-map (λ y. LessY (f x) y) f xs (λ i d lt. rises x (get_or xs i d) (there (suc i) d (omega (arith, lt))) (k.first i d lt));
        met = All-map (IsMet LessY ArrowY) f (x ∷ xs) (λ i d lt. met_label (get_or (x ∷ xs) i d) (k.met i d lt));
      }
