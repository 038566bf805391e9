-- A statement without a test of values answers for a row's number alone.
use Rattle.std.proofs.{Common.{◌≡◌, ℕ, ℤ, List, false, not, ◌&&◌, ◌||◌, Option, Some, None, refl, ap, ◌∙◌}, lemmas.Bool.{or_parts, true≢false}}
use Rattle.lab_table.specs.Row.{Row, is_in}
use Rattle.lab_table.specs.Predicate.{Predicate, Compare, Remainder, OneOf, Not, And, Or, holds}
use Rattle.lab_table.specs.Statement.{where_holds, kind_selects}
use Rattle.lab_table.specs.ValueTests.{pred_tests, where_tests, kind_tests}
use Rattle.lab_table.specs.declared.{predicate.Col.TheVariants.{Id, Value}, statement.StatementKind.{StatementKind, TheVariants.{Select, Update, Insert, Delete}}}

module _ (id : ℕ) (x y : ℤ) where
  blind_pred : (p : Predicate) → pred_tests p ≡ false → holds p id x ≡ holds p id y
  blind_pred (Compare Id cmp number) off = refl
  blind_pred (Compare Value cmp number) off = absurd (true≢false off)
  blind_pred (Remainder Id modulus rest) off = refl
  blind_pred (Remainder Value modulus rest) off = absurd (true≢false off)
  blind_pred (OneOf Id numbers) off = refl
  blind_pred (OneOf Value numbers) off = absurd (true≢false off)
  blind_pred (Not p) off = ap not (blind_pred p off)
  blind_pred (And p q) off =
      let parts = or_parts (pred_tests p) (pred_tests q) off in
      ap (λ b. b && holds q id x) (blind_pred p parts.0) ∙ ap (λ b. holds p id y && b) (blind_pred q parts.1)
  blind_pred (Or p q) off =
      let parts = or_parts (pred_tests p) (pred_tests q) off in
      ap (λ b. b || holds q id x) (blind_pred p parts.0) ∙ ap (λ b. holds p id y || b) (blind_pred q parts.1)

  blind_where : (p : Option Predicate) → where_tests p ≡ false → where_holds p id x ≡ where_holds p id y
  blind_where None off = refl
  blind_where (Some p) off = blind_pred p off

pub blind_kind : (table : List ℕ) (kind : StatementKind) → kind_tests kind ≡ false → (row : Row) (x y : ℤ) → kind_selects table kind row x ≡ kind_selects table kind row y
blind_kind table (Select pred) off row x y = ap (λ b. is_in table row && b) (blind_where row.id x y pred off)
blind_kind table (Update expr pred) off row x y = ap (λ b. is_in table row && b) (blind_where row.id x y pred off)
blind_kind table (Insert id new) off row x y = refl
blind_kind table (Delete pred) off row x y = ap (λ b. is_in table row && b) (blind_where row.id x y pred off)
