-- A text is a word of the grammar where it is reserved, and else the name of a table where it can be one.
use Rattle.lab_statement.proofs.Common.{◌≡◌, ℕ, Bool, true, false, ◌&&◌, not, List, Option, Some, None, refl, sym, ap, if◌then◌else◌, ◌↔◌, IsTrue, is_some, option_map, unwrap_or, Word, has_name_form, is_table_name, is_reserved, word_named, Token, word_token}
use Rattle.lab_statement.specs.declared.token.Token.TheVariants as token

-- the word that a text spells which has a name's form or not, where it may be a reserved one
abbrev spelled : Option Word → Bool → List ℕ → Token
spelled word form text = unwrap_or (option_map (λ w. token.Word w) word) (if form && not (is_some word) then token.Name text else token.OtherWord)

-- a text is a word of the grammar exactly where it is reserved
pub spells_word : (text : List ℕ) → IsTrue (is_reserved text) ↔ ((word : Word) × (word_token text ≡ token.Word word))
spells_word text = at (word_named text) (has_name_form text)
  where
    at : (word : Option Word) (form : Bool) → IsTrue (is_some word) ↔ ((w : Word) × (spelled word form text ≡ token.Word w))
    at (Some w) form = (λ is. (w, refl), λ is. refl)
    at None true = (λ is. absurd cc, λ is. let e = is.1 in absurd cc)
    at None false = (λ is. absurd cc, λ is. let e = is.1 in absurd cc)

-- and a name exactly where it is a table's
pub spells_name : (text name : List ℕ) → (word_token text ≡ token.Name name) ↔ ((name ≡ text) × (is_table_name text ≡ true))
spells_name text name = at (word_named text) (has_name_form text)
  where
    at : (word : Option Word) (form : Bool) → (spelled word form text ≡ token.Name name) ↔ ((name ≡ text) × ((form && not (is_some word)) ≡ true))
    at (Some w) true = (λ is. absurd cc, λ both. let e = both.1 in absurd cc)
    at (Some w) false = (λ is. absurd cc, λ both. let e = both.1 in absurd cc)
    at None true = (λ is. (cc, refl), λ both. ap (λ n. token.Name n) (sym both.0))
    at None false = (λ is. absurd cc, λ both. let e = both.1 in absurd cc)

-- the name of a table is spelled as its word
pub name_named : (text : List ℕ) → is_table_name text ≡ true → word_token text ≡ token.Name text
name_named text named = (spells_name text text).1 (refl, named)
