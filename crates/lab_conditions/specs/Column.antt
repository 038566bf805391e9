-- Tests of one number of a row, and whether one of them is true.
use Rattle.std.specs.Prelude.{ℕ, ℤ, pos, Bool, false, not, ◌&&◌, ◌||◌, nat_eq, int_lt, int_rem, Option, Some, None, List, []}
use Rattle.std.specs.List.{list_any}
use Rattle.std.specs.Ordering.{int_eq}
use Rattle.std.specs.Coded.{Coded, code_by, coded×, coded_list, coded_option, coded_ℕ, coded_ℤ}
use Rattle.std.proofs.Common.{refl}

-- the number is below a bound, above one, one of some numbers, or leaves one of some rests by its modulus
pub record Tests : Type 0 where
  pub below : Option ℤ
  pub above : Option ℤ
  pub numbers : List ℤ
  pub remainders : List (ℕ × ℤ)

-- tests are stored as the tuple of their parts
abbrev pub coded_tests : Coded Tests
coded_tests =
    code_by (Option ℤ × (Option ℤ × (List ℤ × List (ℕ × ℤ))))
    (coded× (coded_option coded_ℤ) (coded× (coded_option coded_ℤ) (coded× (coded_list coded_ℤ) (coded_list (coded× coded_ℕ coded_ℤ)))))
    (λ t. (t.below, (t.above, (t.numbers, t.remainders))))
    (λ p. record { below = p.0; above = p.1.0; numbers = p.1.1.0; remainders = p.1.1.1 })
    (λ _. refl)

-- whether a number is below a bound, if there is one
abbrev pub is_below : Option ℤ → ℤ → Bool
is_below None number = false
is_below (Some bound) number = int_lt number bound

-- whether a number is above a bound, if there is one
abbrev pub is_above : Option ℤ → ℤ → Bool
is_above None number = false
is_above (Some bound) number = int_lt bound number

-- whether a number leaves this rest by this modulus
abbrev pub leaves : ℤ → ℕ × ℤ → Bool
leaves number remainder = int_eq (int_rem number (pos remainder.0)) remainder.1

-- whether a remainder is that of this modulus and rest
abbrev pub is_pair : ℕ → ℤ → ℕ × ℤ → Bool
is_pair modulus rest remainder = nat_eq modulus remainder.0 && int_eq rest remainder.1

-- whether a number leaves the rest of a pair by this modulus
abbrev pub leaves_by : ℤ → List (ℕ × ℤ) → ℕ → Bool
leaves_by number pairs modulus = list_any (is_pair modulus (int_rem number (pos modulus))) pairs

-- whether one of the tests is true of a number
abbrev pub passes : Tests → ℤ → Bool
passes t number = (is_below t.below number || is_above t.above number) || (list_any (int_eq number) t.numbers || list_any (leaves number) t.remainders)

-- there is no test
abbrev pub no_tests : Tests
no_tests = record { below = None; above = None; numbers = []; remainders = [] }

-- whether a modulus is that of a remainder
abbrev pub is_modulus_of : ℕ × ℤ → ℕ → Bool
is_modulus_of remainder modulus = nat_eq modulus remainder.0

-- whether one of these remainders has a modulus that isn't one of those
abbrev pub lacks_a_modulus : List ℕ → List (ℕ × ℤ) → Bool
lacks_a_modulus moduli remainders = list_any (λ r. not (list_any (is_modulus_of r) moduli)) remainders
