-- What is tested of engines that tell the same.
use Rattle.std.{proofs.{Common.{◌≡◌, ℤ, ℕ, true, false, List, [], refl, sym, ap, subst}, lemmas.{Bool.{false≢true, Decides.{Decides-and, Decides-int_eq, Decides-like}}, Slice.Eq.{bytes_eq-Decides, slice_eq-Decides}}}, specs.{Prelude.{⊤, ◌&&◌}, Str.{bytes_eq}, Bool.{Decides}, Ordering.{int_eq}}}
use Rattle.lab_table.{specs.Row.{Row, row_test}, proofs.Maps.{tested_same, tests_itself}}
use Rattle.lab_compare.specs.{Alike.{TellSame, alike, same_content, same_entries}, declared.telling.{Content.{Content, TheVariants.{Text, Rows}}, Telling.{Telling}}}

row_Decides : (a b : Row) → Decides (row_test a b) (a ≡ b)
row_Decides a b = (tested_same a b, λ same. subst (λ row. row_test a row ≡ true) same (tests_itself a))

entry_Decides : (a b : Row × ℤ) → Decides (row_test a.0 b.0 && int_eq a.1 b.1) (a ≡ b)
entry_Decides a b = Decides-like _ (λ parts i. (parts.0 i, parts.1 i)) (λ same. (ap (λ e. e.0) same, ap (λ e. e.1) same)) (Decides-and _ _ (row_Decides a.0 b.0) (Decides-int_eq a.1 b.1))

-- a test that always fails decides what never holds
never : {P : Type 0} → (P → ⊥) → Decides false P
never denied = (λ t. absurd (false≢true t), λ p. absurd (denied p))

pub entries_Decides : (one other : List (Row × ℤ)) → Decides (same_entries one other) (one ≡ other)
entries_Decides one other = slice_eq-Decides entry_Decides one other _ refl

-- what stands in a content of either kind
abbrev text_in : Content → List ℕ
text_in (Text text) = text
text_in (Rows rows) = []

abbrev rows_in : Content → List (Row × ℤ)
rows_in (Text text) = []
rows_in (Rows rows) = rows

-- a text isn't rows
abbrev IsText : Content → Type 0
IsText (Text text) = ⊤
IsText (Rows rows) = ⊥

not_same : (text : List ℕ) (rows : List (Row × ℤ)) → Text text ≡ Rows rows → ⊥
not_same text rows same = subst IsText same tt

content_Decides : (one other : Content) → Decides (same_content one other) (one ≡ other)
content_Decides (Text one) (Text other) = Decides-like (bytes_eq one other) (λ (is : one ≡ other). ap Text is) (λ (same : Text one ≡ Text other). ap text_in same) (bytes_eq-Decides one other)
content_Decides (Text one) (Rows other) = never (not_same one other)
content_Decides (Rows one) (Text other) = never (λ same. not_same other one (sym same))
content_Decides (Rows one) (Rows other) = Decides-like (same_entries one other) (λ (is : one ≡ other). ap Rows is) (λ (same : Rows one ≡ Rows other). ap rows_in same) (entries_Decides one other)

-- two engines are found alike where they tell the same, and only there
pub alike_Decides : (one other : Telling) → Decides (alike one other) (TellSame one other)
alike_Decides one other = content_Decides one.content other.content
