-- Tests that pass, and values that are there.
use Rattle.std.{proofs.{Common.{◌≡◌, Bool, true, false, cond, ◌&&◌, T, List, [], ◌∷◌, ◌++◌, length, Option, Some, None, IsSome, option_map, refl, sym, subst}, lemmas.Option.{same_Some, none-some}}, specs.Prelude.{slice_get}}

-- a test of two things is the test of each
pub both : (a b : Bool) → T (a && b) → T a × T b
both true true h = (tt, tt)
both true false h = absurd h
both false b h = absurd h

-- two tests that pass, pass together
pub joined : (a b : Bool) → T a → T b → T (a && b)
joined true b h k = k
joined false b h k = absurd h

-- what is there is something
pub some_of : {A : Type 0} (o : Option A) → IsSome o → (x : A) × (o ≡ Some x)
some_of None h = absurd cc
some_of (Some x) h = (x, refl)

-- what isn't something is nothing
pub none_of : {A : Type 0} (o : Option A) → ¬ IsSome o → o ≡ None
none_of None h = refl
none_of (Some x) h = absurd (h refl)

-- something is there
pub some_is : {A : Type 0} (o : Option A) (x : A) → o ≡ Some x → IsSome o
some_is None x h = absurd (none-some x h)
some_is (Some y) x h = refl

-- what is there under a condition
pub under_condition : {A : Type 0} (b : Bool) (o : Option A) (x : A) → cond b o None ≡ Some x → (b ≡ true) × (o ≡ Some x)
under_condition true o x e = (refl, e)
under_condition false o x e = absurd (none-some x e)

-- no condition is both true and false
pub true_and_false : (P : Type 0) (b : Bool) → b ≡ true → b ≡ false → P
true_and_false P true t f = absurd (subst T f tt)
true_and_false P false t f = absurd (subst T (sym t) tt)

-- what something was made of
pub mapped_some : {A B : Type 0} (f : A → B) (o : Option A) (y : B) → option_map f o ≡ Some y → (x : A) × (o ≡ Some x) × (f x ≡ y)
mapped_some f None y e = absurd (none-some y e)
mapped_some f (Some x) y e = (x, refl, same_Some (f x) y e)

-- what stands behind a list is at the place of its length
pub slice_get-middle : {A : Type 0} (xs : List A) (y : A) (ys : List A) → slice_get (xs ++ y ∷ ys) (length xs) ≡ Some y
slice_get-middle [] y ys = refl
slice_get-middle (x ∷ xs) y ys = slice_get-middle xs y ys
