-- Alternatives in another order.
use Rattle.std.proofs.Common.{◌≡◌, Bool, true, false, not, ◌&&◌, ◌||◌, List, [], ◌∷◌, refl, ap, ◌∙◌}
use Rattle.std.specs.List.{list_any}

pub or_comm : (a b : Bool) → (a || b) ≡ (b || a)
or_comm true true = refl
or_comm true false = refl
or_comm false true = refl
or_comm false false = refl

pub or_assoc : (a b c : Bool) → ((a || b) || c) ≡ (a || (b || c))
or_assoc true b c = refl
or_assoc false b c = refl

-- an alternative that is there adds nothing
pub or_again : (a b : Bool) → (a || b) ≡ ((a || b) || a)
or_again true b = refl
or_again false true = refl
or_again false false = refl

-- one more alternative after the first, the second and the third of some
pub or_first : (a x b : Bool) → ((a || x) || b) ≡ ((a || b) || x)
or_first true x b = refl
or_first false true true = refl
or_first false true false = refl
or_first false false true = refl
or_first false false false = refl

pub or_second : (a b x c : Bool) → (a || ((b || x) || c)) ≡ ((a || (b || c)) || x)
or_second true b x c = refl
or_second false b x c = or_first b x c

pub or_third : (a b c x d : Bool) → (a || (b || ((c || x) || d))) ≡ ((a || (b || (c || d))) || x)
or_third true b c x d = refl
or_third false b c x d = or_second b c x d

pub and_none : (a : Bool) → (a && false) ≡ false
and_none true = refl
and_none false = refl

pub not_and : (a b : Bool) → not (a && b) ≡ (not a || not b)
not_and true b = refl
not_and false b = refl

-- ---- of a list

module _ {X : Type 0} where
  pub any_none : (xs : List X) → list_any (λ x. false) xs ≡ false
  any_none [] = refl
  any_none (x ∷ xs) = any_none xs

  pub any_or : (f g : X → Bool) (xs : List X) → list_any (λ x. f x || g x) xs ≡ (list_any f xs || list_any g xs)
  any_or f g [] = refl
  any_or f g (x ∷ xs) = ap (λ b. (f x || g x) || b) (any_or f g xs) ∙ crossed (f x) (g x) (list_any f xs) (list_any g xs)
    where
      crossed : (a b c d : Bool) → ((a || b) || (c || d)) ≡ ((a || c) || (b || d))
      crossed true b c d = refl
      crossed false true true d = refl
      crossed false true false d = refl
      crossed false false c d = refl
