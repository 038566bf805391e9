-- Texts in which JSON escapes nothing: names of tables, numbers and statements in printed form.
use Rattle.std.{proofs.{Common.{◌≡◌, ℕ, zero, suc, ◌<◌, ◌/◌, ◌%◌, ◌==◌, Bool, true, false, cond, not, ◌&&◌, ◌||◌, List, [], ◌∷◌, ◌++◌, Option, Some, None, refl, ap₂, ◌∙◌, arith}, lemmas.{Bool.{and_from, and_parts, not-true, eqb-false, leb-true}, Bool.Decides.{nat_tests}, List.Folds.{list_all-append}}}, specs.{Prelude.{ℤ, pos, negsuc, nat_le, codes}, List.{list_all}, Fmt.{decimal, signed_decimal, digits_onto, digit_glyph}}}
unfoldable use Rattle.std.specs.Fmt.{digits}
use Rattle.json.{specs.Print.{escape}, proofs.Printed.Strings.{escape_byte_plain}}
use Rattle.lab_table.specs.{Predicate.{Predicate}, TableName.{is_name_letter, is_table_name}, declared.{predicate.{Col.{Col}, Cmp.{Cmp}}, statement.{Expr.{Expr}, Statement.{Statement}, StatementKind.{StatementKind}}}}
use Rattle.lab_table.specs.Predicate as predicate
use Rattle.lab_table.specs.declared.predicate.Col.TheVariants as col
use Rattle.lab_table.specs.declared.predicate.Cmp.TheVariants as cmp
use Rattle.lab_table.specs.declared.statement.Expr.TheVariants as expr
use Rattle.lab_table.specs.declared.statement.StatementKind.TheVariants as kind
use Rattle.lab_printing.specs.Printed.{printed_col, printed_cmp, joined, printed_numbers, parenthesized, is_or, is_and, printed_pred, printed_where, printed_expr, printed_row, printed_kind, printed_statement}

-- a byte that is printed, and neither a quotation mark nor a backslash
abbrev pub is_clear : ℕ → Bool
is_clear b = (nat_le 32 b && nat_le b 126) && (not (b == 34) && not (b == 92))

-- text of such bytes
pub record Clear (text : List ℕ) : Type 0 where
  pub all : list_all is_clear text ≡ true

pub literal : (text : List ℕ) → list_all is_clear text ≡ true → Clear text
literal text h = record { all = h }

-- nothing is escaped in it
all_escape : (text : List ℕ) → list_all is_clear text ≡ true → escape text ≡ text
all_escape [] h = refl
all_escape (b ∷ text) h =
    let parts = and_parts (is_clear b) _ h in
    let tests = and_parts (nat_le 32 b && nat_le b 126) _ parts.0 in
    let others = and_parts (not (b == 34)) _ tests.1 in
    let low = leb-true 32 b (and_parts (nat_le 32 b) _ tests.0).0 in
    ap₂ (λ (a c : List ℕ). a ++ c) (escape_byte_plain b (eqb-false b 34 (not-true (b == 34) others.0)) (eqb-false b 92 (not-true (b == 92) others.1)) low) (all_escape text parts.1)

pub clear_escape : {text : List ℕ} → Clear text → escape text ≡ text
clear_escape {text} h = all_escape text h.all

-- two clear texts
both : {a b : List ℕ} → Clear a → Clear b → Clear (a ++ b)
both {a} {b} p q = literal (a ++ b) (list_all-append is_clear a b ∙ and_from (list_all is_clear a) (list_all is_clear b) p.all q.all)

-- names of tables
letter_clear : (b : ℕ) → is_name_letter b ≡ true → is_clear b ≡ true
letter_clear b h = grind (arith, nat_tests)

letters_clear : (text : List ℕ) → list_all is_name_letter text ≡ true → list_all is_clear text ≡ true
letters_clear [] h = refl
letters_clear (b ∷ text) h = let parts = and_parts _ _ h in and_from _ _ (letter_clear b parts.0) (letters_clear text parts.1)

pub name_clear : (text : List ℕ) → is_table_name text ≡ true → Clear text
name_clear text h = literal text (letters_clear text (and_parts _ _ (and_parts _ _ h).0).1)

-- numbers
glyph_clear : (d : ℕ) → d < 10 → is_clear (digit_glyph false d) ≡ true
glyph_clear d lt = grind (arith, nat_tests)

onto_clear : (k n : ℕ) (acc : List ℕ) → list_all is_clear acc ≡ true → list_all is_clear (digits_onto k 10 false n acc) ≡ true
onto_clear zero n acc h = h
onto_clear (suc k) n acc h =
    let more : list_all is_clear (digit_glyph false (n % 10) ∷ acc) ≡ true = and_from _ _ (glyph_clear (n % 10) (omega arith)) h in
    elim (n / 10 == 0) as (λ v. list_all is_clear (cond v (digit_glyph false (n % 10) ∷ acc) (digits_onto k 10 false (n / 10) (digit_glyph false (n % 10) ∷ acc))) ≡ true) [
      | true ↦ more
      | false ↦ onto_clear k (n / 10) (digit_glyph false (n % 10) ∷ acc) more
    ]

digits_clear : (n : ℕ) → list_all is_clear (decimal n) ≡ true
unfolding digits
digits_clear n = onto_clear 64 n [] refl

pub decimal_clear : (n : ℕ) → Clear (decimal n)
decimal_clear n = literal (decimal n) (digits_clear n)

pub signed_clear : (z : ℤ) → Clear (signed_decimal z)
signed_clear (pos n) = decimal_clear n
signed_clear (negsuc n) = both (literal (codes "-") refl) (decimal_clear (suc n))

numbers_clear : (zs : List ℤ) → Clear (joined (printed_numbers zs))
numbers_clear [] = literal [] refl
numbers_clear (z ∷ []) = signed_clear z
numbers_clear (z ∷ y ∷ zs) = both (both (signed_clear z) (literal (codes ", ") refl)) (numbers_clear (y ∷ zs))

-- predicates
col_clear : (c : Col) → Clear (printed_col c)
col_clear col.Id = literal (codes "id") refl
col_clear col.Value = literal (codes "value") refl

cmp_clear : (m : Cmp) → Clear (printed_cmp m)
cmp_clear cmp.Eq = literal (codes " = ") refl
cmp_clear cmp.Ne = literal (codes " <> ") refl
cmp_clear cmp.Lt = literal (codes " < ") refl
cmp_clear cmp.Le = literal (codes " <= ") refl
cmp_clear cmp.Gt = literal (codes " > ") refl
cmp_clear cmp.Ge = literal (codes " >= ") refl

within_clear : (b : Bool) (text : List ℕ) → Clear text → Clear (parenthesized b text)
within_clear true text h = both (both (literal (codes "(") refl) h) (literal (codes ")") refl)
within_clear false text h = h

pred_clear : (p : Predicate) → Clear (printed_pred p)
pred_clear (predicate.Compare c m n) = both (both (col_clear c) (cmp_clear m)) (signed_clear n)
pred_clear (predicate.Remainder c m r) = both (both (both (both (col_clear c) (literal (codes " % ") refl)) (decimal_clear m)) (literal (codes " = ") refl)) (signed_clear r)
pred_clear (predicate.OneOf c ns) = both (both (both (col_clear c) (literal (codes " in (") refl)) (numbers_clear ns)) (literal (codes ")") refl)
pred_clear (predicate.Not p) = both (literal (codes "not ") refl) (within_clear (is_and p || is_or p) (printed_pred p) (pred_clear p))
pred_clear (predicate.And p q) = both (both (within_clear (is_or p) (printed_pred p) (pred_clear p)) (literal (codes " and ") refl)) (within_clear (is_and q || is_or q) (printed_pred q) (pred_clear q))
pred_clear (predicate.Or p q) = both (both (pred_clear p) (literal (codes " or ") refl)) (within_clear (is_or q) (printed_pred q) (pred_clear q))

-- statements
where_clear : (p : Option Predicate) → Clear (printed_where p)
where_clear None = literal [] refl
where_clear (Some p) = both (literal (codes " where ") refl) (pred_clear p)

expr_clear : (e : Expr) → Clear (printed_expr e)
expr_clear (expr.Set n) = signed_clear n
expr_clear (expr.Plus n) = both (literal (codes "value + ") refl) (signed_clear n)
expr_clear (expr.Minus n) = both (literal (codes "value - ") refl) (signed_clear n)

row_clear : (id : ℕ) (value : ℤ) → Clear (printed_row id value)
row_clear id value = both (both (both (both (literal (codes "(") refl) (decimal_clear id)) (literal (codes ", ") refl)) (signed_clear value)) (literal (codes ")") refl)

kind_clear : (table : List ℕ) → Clear table → (k : StatementKind) → Clear (printed_kind table k)
kind_clear table named (kind.Select p) = both (both (literal (codes "select * from ") refl) named) (where_clear p)
kind_clear table named (kind.Update e p) = both (both (both (both (literal (codes "update ") refl) named) (literal (codes " set value = ") refl)) (expr_clear e)) (where_clear p)
kind_clear table named (kind.Insert id value) = both (both (both (literal (codes "insert into ") refl) named) (literal (codes " (id, value) values ") refl)) (row_clear id value)
kind_clear table named (kind.Delete p) = both (both (literal (codes "delete from ") refl) named) (where_clear p)

pub statement_clear : (s : Statement) → is_table_name s.table ≡ true → Clear (printed_statement s)
statement_clear s named = kind_clear s.table (name_clear s.table named) s.kind
