-- Reading step by step: what follows from its end, and how it ends.
use Rattle.std.{proofs.{Common.{◌≡◌, ℕ, ◌≤◌, ◌⊎◌, inl, inr, Bool, true, false, Option, Some, None, Result, Ok, Err, refl, ap, ◌∙◌, ltb-false, ltb-true, nat_lt, arith, option_and_then, if◌then◌else◌}, lemmas.Bool.{false_from_ne_true}}, specs.Prelude.{⊤}}
use Rattle.lab_history.specs.{Faults.{◌>>=◌, required, refused_if}, declared.{fault.FileFault.{FileFault}, path.Path.{Path}}}
use Rattle.lab_history.specs.declared.fault.FileFault.TheVariants as fault

module _ {A B : Type 0} where
  -- what ended well did so in both steps
  pub both_ok : (r : Result A FileFault) (f : A → Result B FileFault) (y : B) → (r >>= f) ≡ Ok y → (x : A) × (r ≡ Ok x) × (f x ≡ Ok y)
  both_ok (Ok x) f y e = (x, refl, e)
  both_ok (Err g) f y e = absurd cc

  -- a fault is of the first step, or of the second
  pub either_err : (r : Result A FileFault) (f : A → Result B FileFault) (g : FileFault) → (r >>= f) ≡ Err g → (r ≡ Err g) ⊎ ((x : A) × (r ≡ Ok x) × (f x ≡ Err g))
  either_err (Ok x) f g e = inr (x, refl, e)
  either_err (Err h) f g e = inl cc

  -- behind a first step that ended well comes the second
  pub step_on : {r : Result A FileFault} (f : A → Result B FileFault) {x : A} {end : Result B FileFault} → r ≡ Ok x → f x ≡ end → (r >>= f) ≡ end
  step_on f {end = end} e g = ap (λ r. r >>= f) e ∙ g

module _ {A : Type 0} where
  -- what was required was there
  pub required_ok : (place : Path) (o : Option A) (x : A) → required place o ≡ Ok x → o ≡ Some x
  required_ok place None x e = absurd cc
  required_ok place (Some y) x e = cc

  -- what is there is read
  pub required_is : (place : Path) {o : Option A} {x : A} → o ≡ Some x → required place o ≡ Ok x
  required_is place e = ap (required place) e

  -- what is missing is of a wrong format
  pub required_err : (place : Path) (o : Option A) (g : FileFault) → required place o ≡ Err g → (o ≡ None) × (g ≡ fault.WrongFormat place)
  required_err place None g e = (refl, cc)
  required_err place (Some y) g e = absurd cc

-- what wasn't refused didn't meet the test
pub refused_ok : (b : Bool) (g : FileFault) (u : ⊤) → refused_if b g ≡ Ok u → b ≡ false
refused_ok true g u e = absurd cc
refused_ok false g u e = refl

pub refused_is : {b : Bool} (g : FileFault) → b ≡ false → refused_if b g ≡ Ok tt
refused_is g e = ap (λ b. refused_if b g) e

pub refused_err : (b : Bool) (g h : FileFault) → refused_if b g ≡ Err h → (b ≡ true) × (h ≡ g)
refused_err true g h e = (refl, cc)
refused_err false g h e = absurd cc

-- a limit that is kept, and one that isn't
pub kept_limit : (limit n : ℕ) (g : FileFault) (u : ⊤) → refused_if (nat_lt limit n) g ≡ Ok u → n ≤ limit
kept_limit limit n g u e = ltb-false limit n (refused_ok _ g u e)

pub limit_kept : (limit n : ℕ) (g : FileFault) → n ≤ limit → refused_if (nat_lt limit n) g ≡ Ok tt
limit_kept limit n g le = refused_is g (false_from_ne_true _ (λ e. let over = ltb-true limit n e in absurd (omega (arith, le, over))))

module _ {A B : Type 0} where
  -- what was found in two steps was found in both
  pub both_some : (o : Option A) (f : A → Option B) (y : B) → option_and_then f o ≡ Some y → (x : A) × (o ≡ Some x) × (f x ≡ Some y)
  both_some None f y e = absurd cc
  both_some (Some x) f y e = (x, refl, e)

-- what was found under a test passed it
pub when_found : {A : Type 0} (b : Bool) (x y : A) → (if b then Some x else None) ≡ Some y → (b ≡ true) × (x ≡ y)
when_found true x y e = (refl, cc)
when_found false x y e = absurd cc
