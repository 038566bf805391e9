-- Tokens that their derived test finds the same are the same.
use Rattle.lab_statement.proofs.Common.{rules, ◌≡◌, ℕ, Bool, true, false, cond, inl, inr, List, [], ◌∷◌, Some, None, refl, sym, ap, ◌∙◌, eqb-true, cases_Bool, false≢true, none-some, same_Some, Word, Token, is_token, after}
use Rattle.std.specs.Cmp.Lexicographic.{bytes_decides}
use denote.Struct.Field.{Field}
use denote.Struct.Values.{Values}
use denote.Enum.Declared.{Choice, Record, values_one}
use denote.Enum.Compared.{Each, by}
use denote.Enum.Bare.{same_true}
use Rattle.lab_table.specs.contracts.word.Word as word
use Rattle.lab_table.specs.contracts.word.WordPartialEq.TheImpl as words
use Rattle.lab_statement.specs.contracts.token.Token as token

-- the test of each variant's fields tells that they are the same; where it has none there is nothing to tell
abbrev pub Tells : (Fss : List (List Field)) → Each Bool Fss → Type 0
Tells [] each = Unit {0}
Tells ([] ∷ Fss) each = Tells Fss each.1
Tells ((F ∷ Fs) ∷ Fss) each = ((x y : Values (F ∷ Fs)) → each.0 x y ≡ true → x ≡ y) × Tells Fss each.1

same_choice : (Fss : List (List Field)) (each : Each Bool Fss) → Tells Fss each → (c d : Choice Fss) → by false false Fss each c d ≡ true → c ≡ d
same_choice [] each all c d e = absurd c
same_choice ([] ∷ Fss) each all (inl x) (inl y) e = refl
same_choice ((F ∷ Fs) ∷ Fss) each all (inl x) (inl y) e = ap inl (all.0 x y e)
same_choice ([] ∷ Fss) each all (inr x) (inr y) e = ap inr (same_choice Fss each.1 all x y e)
same_choice ((F ∷ Fs) ∷ Fss) each all (inr x) (inr y) e = ap inr (same_choice Fss each.1 all.1 x y e)
same_choice (Fs ∷ Fss) each all (inl x) (inr y) e = absurd (false≢true e)
same_choice (Fs ∷ Fss) each all (inr x) (inl y) e = absurd (false≢true e)

same_variant : (N : Record) (each : Each Bool N.parts) → Tells N.parts each → (x y : N.D) → by false false N.parts each (N.as_values x) (N.as_values y) ≡ true → x ≡ y
same_variant N each all x y e = values_one N x y (same_choice N.parts each all (N.as_values x) (N.as_values y) e)

-- words and tokens that their tests find the same are the same
same_word : (w v : Word) → words.ghosts.eq w v ≡ true → w ≡ v
same_word = same_true word.the_type (search rules)

pub same_token : (t u : Token) → is_token t u ≡ true → t ≡ u
same_token = same_variant token.enum _ (
  λ x y e. ap (λ (w : Word). (w, tt)) (same_word x.0 y.0 e),
  (
    λ x y e. ap (λ (name : List ℕ). (name, tt)) ((bytes_decides x.0 y.0).0 e),
    (λ x y e. ap (λ (n : ℕ). (n, tt)) (eqb-true x.0 y.0 e), tt),
  ),
)

-- what stands behind a token that is found
pub after_is : (t : Token) (ts rest : List Token) → after t ts ≡ Some rest → ts ≡ t ∷ rest
after_is t [] rest e = absurd cc
after_is t (u ∷ us) rest e =
    elim (cases_Bool (is_token t u)) [
      | inl is ↦ let tail : us ≡ rest = same_Some us rest (sym (ap (λ (b : Bool). cond b (Some us) None) is) ∙ e) in
          let head : t ≡ u = same_token t u is in
          cc
      | inr isnt ↦ absurd (none-some rest (sym (ap (λ (b : Bool). cond b (Some us) None) isnt) ∙ e))
    ]
