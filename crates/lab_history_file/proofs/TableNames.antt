-- The names of tables in a file.
use Rattle.std.proofs.{Common.{◌≡◌, ℕ, zero, suc, ◌<◌, Bool, true, false, List, [], ◌∷◌, Some, None, if◌then◌else◌, bytes_eq, refl, sym, ap, ap₂, subst, ◌∙◌, arith}, lemmas.{Bool.{and_parts}, Str.{IsUtf8-from_ascii}, Slice.Eq.{bytes_eq-Decides}}}
use Rattle.std.specs.{Prelude.{IsUtf8, IsAscii}, Char.{to_ascii_lowercase}, List.{list_all}}
use Rattle.lab_table.specs.TableName.{is_name_letter, is_table_name, in_lower_case}
use Rattle.lab_history_file.specs.Member.{name_in}

-- a name is made of letters
has_letters : (text : List ℕ) → is_table_name text ≡ true → list_all is_name_letter text ≡ true
has_letters text h = (and_parts _ _ (and_parts _ _ h).0).1

letter_below : (b : ℕ) → is_name_letter b ≡ true → b < 128
letter_below b h = grind arith

letters_ascii : (text : List ℕ) → list_all is_name_letter text ≡ true → IsAscii text
letters_ascii [] h i = omega arith
letters_ascii (b ∷ text) h zero = letter_below b (and_parts _ _ h).0
letters_ascii (b ∷ text) h (suc i) = letters_ascii text (and_parts _ _ h).1 i

-- a name is UTF-8
pub name_is_utf8 : (text : List ℕ) → is_table_name text ≡ true → IsUtf8 text
name_is_utf8 text h = IsUtf8-from_ascii text (letters_ascii text (has_letters text h))

letter_lower : (b : ℕ) → is_name_letter b ≡ true → to_ascii_lowercase b ≡ b
letter_lower b h = grind arith

letters_lower : (text : List ℕ) → list_all is_name_letter text ≡ true → in_lower_case text ≡ text
letters_lower [] h = refl
letters_lower (b ∷ text) h = let parts = and_parts _ _ h in ap₂ (λ c cs. c ∷ cs) (letter_lower b parts.0) (letters_lower text parts.1)

-- a name is in lower case
name_lower : (text : List ℕ) → is_table_name text ≡ true → in_lower_case text ≡ text
name_lower text h = letters_lower text (has_letters text h)

-- a text whose lower case is a name, and is the text, is one,
pub name_found : (text name : List ℕ) → is_table_name (in_lower_case text) ≡ true → name ≡ in_lower_case text → bytes_eq name text ≡ true → name_in text ≡ Some name
name_found text name h is same =
    let whole : name ≡ text = (bytes_eq-Decides name text).0 same in
    ap (λ b. if b then Some text else None) (subst (λ t. is_table_name t ≡ true) (sym is ∙ whole) h) ∙ ap (λ t. Some t) (sym whole)

-- what a test answers for a text in lower case it answers for a text that would else be a name
no_name_by : (text : List ℕ) → (is_table_name text ≡ true → ⊥) → name_in text ≡ None
no_name_by text none = tested (is_table_name text) none
  where
    tested : (b : Bool) → (b ≡ true → ⊥) → (if b then Some text else None) ≡ None
    tested true none = absurd (none refl)
    tested false none = refl

-- a text whose lower case is another text is none,
pub other_name : (text name : List ℕ) → name ≡ in_lower_case text → bytes_eq name text ≡ false → name_in text ≡ None
other_name text name is other =
    no_name_by text (λ h. let same = (bytes_eq-Decides name text).1 (is ∙ name_lower text h) in absurd cc)

-- and one whose lower case is no name
pub no_name : (text : List ℕ) → is_table_name (in_lower_case text) ≡ false → name_in text ≡ None
no_name text none = no_name_by text (λ h. let named = ap is_table_name (name_lower text h) ∙ h in absurd cc)
