-- Printed names of tables: each is one word, and code.
use Rattle.lab_statement.proofs.Common.{◌≡◌, ℕ, ◌≤◌, Bool, true, false, ◌&&◌, not, cond, List, [], ◌∷◌, ◌++◌, length, Some, None, refl, sym, ap, ◌∙◌, append_assoc, arith, nat_le, list_all, to_ascii_lowercase, and_parts, and_from, leb-true, nat_tests, append-nil, is_reserved, has_name_form, is_name_letter, is_table_name, Token, letters, is_letter, is_blank, tokens, tokens_from}
use Rattle.lab_statement.specs.declared.token.Token.TheVariants as token
use Rattle.lab_statement.proofs.Tokens.{goes_on}
use Rattle.lab_statement.proofs.PrintedText.{is_plain, all_plain, Reads, word_ends}
use Rattle.lab_statement.proofs.ReservedWords.{name_named}

-- a letter of a name is one of a word, is no blank, is in lower case, and is code

name_letter : (b : ℕ) → is_name_letter b ≡ true → is_letter b ≡ true
name_letter b h = grind (arith, nat_tests)

name_unblank : (b : ℕ) → is_name_letter b ≡ true → is_blank b ≡ false
name_unblank b h = grind (arith, nat_tests)

name_lower : (b : ℕ) → is_name_letter b ≡ true → to_ascii_lowercase b ≡ b
name_lower b h = grind (arith, nat_tests)

name_byte : (b : ℕ) → is_name_letter b ≡ true → is_plain b ≡ true
name_byte b h = grind (arith, nat_tests)

-- the parts of the test of a name
letters_of : (table : List ℕ) → is_table_name table ≡ true → (1 ≤ length table) × (list_all is_name_letter table ≡ true)
letters_of table named =
    let all = and_parts (has_name_form table) (not (is_reserved table)) named in
    let front = and_parts (nat_le 1 (length table) && nat_le (length table) 16) (list_all is_name_letter table) all.0 in
    let long = and_parts (nat_le 1 (length table)) (nat_le (length table) 16) front.0 in
    (leb-true 1 (length table) long.0, front.1)

-- letters of a name go on
letters_on : (text word rest : List ℕ) → list_all is_name_letter text ≡ true → tokens_from (letters word) (text ++ rest) ≡ tokens_from (letters (word ++ text)) rest
letters_on [] word rest h = ap (λ (w : List ℕ). tokens_from (letters w) rest) (sym (append-nil word))
letters_on (b ∷ text) word rest h =
    let parts = and_parts (is_name_letter b) (list_all is_name_letter text) h in
    goes_on (letters word) (letters (word ++ b ∷ [])) b (text ++ rest)
    (ap (λ (v : Bool). cond v (Some (letters (word ++ to_ascii_lowercase b ∷ []))) None) (name_letter b parts.0) ∙ ap (λ (l : ℕ). Some (letters (word ++ l ∷ []))) (name_lower b parts.0))
    ∙ letters_on text (word ++ b ∷ []) rest parts.1
    ∙ ap (λ (w : List ℕ). tokens_from (letters w) rest) (append_assoc word (b ∷ []) text)

-- a name begins a word
name_begins : (text rest : List ℕ) → 1 ≤ length text → list_all is_name_letter text ≡ true → tokens (text ++ rest) ≡ tokens_from (letters []) (text ++ rest)
name_begins [] rest long h = absurd (omega arith)
name_begins (b ∷ text) rest long h =
    let parts = and_parts (is_name_letter b) (list_all is_name_letter text) h in rw (name_unblank b parts.0, name_letter b parts.0) refl

-- and are code
letters_plain : (text : List ℕ) → list_all is_name_letter text ≡ true → list_all is_plain text ≡ true
letters_plain [] h = refl
letters_plain (b ∷ text) h =
    let parts = and_parts (is_name_letter b) (list_all is_name_letter text) h in and_from (is_plain b) (list_all is_plain text) (name_byte b parts.0) (letters_plain text parts.1)

-- the name of a table is a word
pub name_reads : (table : List ℕ) → is_table_name table ≡ true → Reads table (token.Name table ∷ [])
name_reads table named =
    let parts = letters_of table named in
    record {
      is = λ rest h. name_begins table rest parts.0 parts.1 ∙ letters_on table [] rest parts.1 ∙ word_ends table rest h
          ∙ ap (λ (t : Token). t ∷ tokens rest) (name_named table named);
      plain = all_plain table (letters_plain table parts.1);
    }
