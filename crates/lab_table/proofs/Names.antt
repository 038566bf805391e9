-- The names of tables, as bytes.
use Rattle.std.proofs.{Common.{◌≡◌, ℕ, zero, suc, ◌≤◌, true, false, ◌&&◌, not, T, List, [], ◌∷◌, length, sym, ap, ◌∙◌, subst, arith}, lemmas.{List.{length-map, take_at}, Bool.{and_from, leb-true, ne_eqb}}}
use Rattle.std.specs.{Prelude.{◌-◌, nat_le, take, replicate}, Ordering.{nat_cmp}, Cmp.Lexicographic.{slice_cmp}, List.{list_all}, Char.{to_ascii_lowercase}}
use Rattle.lab_table.{specs.{Words.{is_reserved}, Padded.{padded, unpadded, is_nonzero}, TableName.{has_name_form, is_name_letter, is_table_name, in_lower_case, table_name_cmp}}, proofs.{Tests.{both, joined}, PaddedTexts.{is_true, unpadded_padded, padded_compared}}}

-- a letter of a name isn't zero
letter_nonzero : (b : ℕ) → T (is_name_letter b) → T (is_nonzero b)
letter_nonzero zero h = absurd h
letter_nonzero (suc b) h = subst (λ t. T (not t)) (sym (ne_eqb (suc b) 0 (λ e. omega (arith, e)))) tt

letters_nonzero : (text : List ℕ) → T (list_all is_name_letter text) → T (list_all is_nonzero text)
letters_nonzero [] h = tt
letters_nonzero (b ∷ bs) h =
    let parts = both (is_name_letter b) (list_all is_name_letter bs) h in
    joined _ _ (letter_nonzero b parts.0) (letters_nonzero bs parts.1)

module _ (text : List ℕ) (h : T (is_table_name text)) where
  letters_of : T (has_name_form text)
  letters_of = (both (has_name_form text) (not (is_reserved text)) h).0

  lengths_of : T (nat_le 1 (length text) && nat_le (length text) 16)
  lengths_of = (both (nat_le 1 (length text) && nat_le (length text) 16) (list_all is_name_letter text) letters_of).0

  -- a name is short
  pub name_short : length text ≤ 16
  name_short = leb-true (length text) 16 (is_true _ (both (nat_le 1 (length text)) (nat_le (length text) 16) lengths_of).1)

  -- no byte of a name is zero
  pub name_nonzero : T (list_all is_nonzero text)
  name_nonzero = letters_nonzero text (both (nat_le 1 (length text) && nat_le (length text) 16) (list_all is_name_letter text) letters_of).1

-- bytes that hold a name
abbrev pub Holds : List ℕ → Type 0
Holds bytes = (padded (unpadded bytes) ≡ bytes) × T (is_table_name (unpadded bytes))

-- a name is held by its bytes with zeros behind them
pub held : (bytes text : List ℕ) → bytes ≡ padded text → is_table_name text ≡ true → Holds bytes × (unpadded bytes ≡ text)
held bytes text e h =
    let name = subst T (sym h) tt in
    let same : unpadded bytes ≡ text = ap unpadded e ∙ unpadded_padded text (name_nonzero text name) in
    ((ap padded same ∙ sym e, subst (λ t. T (is_table_name t)) (sym same) name), same)

module _ (a b : List ℕ) (first : Holds a) (second : Holds b) where
  -- bytes are in the order of the names that they hold
  pub names_compared : slice_cmp nat_cmp a b ≡ table_name_cmp (unpadded a) (unpadded b)
  names_compared =
      (λ i. slice_cmp nat_cmp (sym first.0 i) (sym second.0 i))
      ∙ padded_compared (unpadded a) (unpadded b) (name_short (unpadded a) first.1) (name_short (unpadded b) second.1) (name_nonzero (unpadded a) first.1) (name_nonzero (unpadded b) second.1)

-- bytes of a text in lower case that was found to be a name hold it
pub spelled_held : (text bytes : List ℕ) → bytes ≡ padded (in_lower_case text) → true ≡ has_name_form (take (length text) bytes) → is_reserved (in_lower_case text) ≡ false
    → Holds bytes × (unpadded bytes ≡ in_lower_case text)
spelled_held text bytes e form none =
    let front : take (length text) bytes ≡ in_lower_case text =
    ap (take (length text)) e ∙ take_at (in_lower_case text) (replicate (16 - length (in_lower_case text)) 0) (length text) (length-map text to_ascii_lowercase) in
    held bytes (in_lower_case text) e (and_from (has_name_form (in_lower_case text)) (not (is_reserved (in_lower_case text))) (ap has_name_form (sym front) ∙ sym form) (ap not none))
