-- What filed conditions say once one more is filed.
use Rattle.std.proofs.Common.{◌≡◌, ◌<◌, ℕ, ℤ, Bool, true, false, ◌&&◌, ◌||◌, length, get_or, slice_set, refl, ap, ◌∙◌}
use Rattle.std.specs.{Ordering.{int_eq}, Cmp.{signed_Decides}}
use Rattle.lab_table.specs.Predicate.{Predicate, holds}
use Rattle.lab_conditions.specs.{Filed.{ByNumber, Filed, any_at, any_filed, filed_holds, looked}, declared.lens.Lens.{Lens}}
use Rattle.lab_conditions.proofs.{Ors.{and_none}, Tables.{any_set}}

-- a condition is true only where its key is
pub by_key : (seen number : ℤ) (b : Bool) → (b ≡ true → seen ≡ number) → (int_eq seen number && b) ≡ b
by_key seen number true is = ap (λ t. t && true) ((signed_Decides seen number).1 (is refl))
by_key seen number false is = and_none (int_eq seen number)

module _ (lens : Lens) (number : ℤ) (pred : Predicate) where
  -- the conditions of one lens get the condition
  abbrev pub IsMore : ByNumber → ByNumber → Type 0
  IsMore old new = (n : ℤ) (id : ℕ) (value : ℤ) → any_at new n id value ≡ (any_at old n id value || (int_eq n number && holds pred id value))

  list_more : (id : ℕ) (value : ℤ) (seen : Lens) (old new : ByNumber) → seen ≡ lens → IsMore old new
      → filed_holds id value (seen, new) ≡ (filed_holds id value (seen, old) || (int_eq (looked lens id value) number && holds pred id value))
  list_more id value seen old new is more =
      more (looked seen id value) id value ∙ ap (λ l. filed_holds id value (seen, old) || (int_eq (looked l id value) number && holds pred id value)) is

  -- and those of all lenses with them
  pub filed_more : (id : ℕ) (value : ℤ) (lists : Filed) (place : ℕ) (t : Lens × ByNumber) (new : ByNumber) → place < length lists → t ≡ get_or lists place t → t.0 ≡ lens → IsMore t.1 new
      → any_filed (slice_set lists place (t.0, new)) id value ≡ (any_filed lists id value || (int_eq (looked lens id value) number && holds pred id value))
  filed_more id value lists place t new within is named more =
      any_set (filed_holds id value) (int_eq (looked lens id value) number && holds pred id value) lists place (t.0, new) t within
      (list_more id value t.0 t.1 new named more ∙ ap (λ x. filed_holds id value x || (int_eq (looked lens id value) number && holds pred id value)) is)

  -- a first condition of a lens
  pub first_of_lens : (id : ℕ) (value : ℤ) (old new : ByNumber) → ((n : ℤ) (id : ℕ) (value : ℤ) → any_at old n id value ≡ false) → IsMore old new
      → filed_holds id value (lens, new) ≡ (int_eq (looked lens id value) number && holds pred id value)
  first_of_lens id value old new none more =
      let seen = looked lens id value in
      more seen id value ∙ ap (λ b. b || (int_eq seen number && holds pred id value)) (none seen id value)
