-- A predicate that a id's own number rules out isn't true of it.
use Rattle.std.proofs.{Common.{◌≡◌, ℕ, ℤ, Bool, true, false, ◌&&◌, ◌||◌, refl, sym, ap, ◌∙◌}, lemmas.Bool.{false≢true}}
use Rattle.lab_table.specs.{Predicate.{Predicate, Compare, Remainder, OneOf, Not, And, Or, holds, may_hold}, declared.predicate.Col.TheVariants.{Id, Value}}

and_off : (a b c d : Bool) → (a ≡ false → c ≡ false) → (b ≡ false → d ≡ false) → (a && b) ≡ false → (c && d) ≡ false
and_off false b c d f g off = ap (λ x. x && d) (f refl)
and_off true b true d f g off = g off
and_off true b false d f g off = refl

or_off : (a b c d : Bool) → (a ≡ false → c ≡ false) → (b ≡ false → d ≡ false) → (a || b) ≡ false → (c || d) ≡ false
or_off true b c d f g off = absurd (false≢true (sym off))
or_off false b c d f g off = ap (λ x. x || d) (f refl) ∙ g off

pub ruled_out : (p : Predicate) (id : ℕ) (value : ℤ) → may_hold p id ≡ false → holds p id value ≡ false
ruled_out (Compare Id cmp number) id value off = off
ruled_out (Compare Value cmp number) id value off = absurd (false≢true (sym off))
ruled_out (Remainder Id modulus rest) id value off = off
ruled_out (Remainder Value modulus rest) id value off = absurd (false≢true (sym off))
ruled_out (OneOf Id numbers) id value off = off
ruled_out (OneOf Value numbers) id value off = absurd (false≢true (sym off))
ruled_out (Not p) id value off = absurd (false≢true (sym off))
ruled_out (And p q) id value off = and_off (may_hold p id) (may_hold q id) (holds p id value) (holds q id value) (ruled_out p id value) (ruled_out q id value) off
ruled_out (Or p q) id value off = or_off (may_hold p id) (may_hold q id) (holds p id value) (holds q id value) (ruled_out p id value) (ruled_out q id value) off
