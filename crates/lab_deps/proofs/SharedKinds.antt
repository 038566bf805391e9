-- Kinds whose bits two cells share.
use Rattle.std.{proofs.{Common.{◌≡◌, ◌↔◌, ◌||◌, ℕ, true, sym, ap, ◌∙◌, inl, inr}, lemmas.{Bool.{eqb-true, eq-eqb, false≢true, or_cases, or_left, or_right}, Nat.{and_assoc, and_comm}}}, specs.{Prelude.{bit_and}, Int.Bits.{and_self}}}
use Rattle.lab_deps.{specs.{KindBits.{bit, has_bit, has_any}, declared.edge.Kind.{Kind, TheVariants.{Write, ItemRead, PredicateRead, ItemAnti, PredicateAnti}}}, proofs.ExactArrows.{no_bit}}

-- bits that stand in both of two cells stand in what they share, and the other way round
module _ (a b p : ℕ) where
  in_shared : bit_and a p ≡ p → bit_and b p ≡ p → bit_and (bit_and a b) p ≡ p
  in_shared in_a in_b = and_assoc p a b ∙ (ap (bit_and a) in_b ∙ in_a)

  in_first : bit_and (bit_and a b) p ≡ p → bit_and a p ≡ p
  in_first shared =
      ap (bit_and a) (sym shared) ∙ (sym (and_assoc p a (bit_and a b)) ∙ (ap (λ c. bit_and c p) (sym (and_assoc b a a) ∙ ap (λ c. bit_and c b) (and_self a)) ∙ shared))

  in_second : bit_and (bit_and a b) p ≡ p → bit_and b p ≡ p
  in_second shared =
      ap (bit_and b) (sym shared) ∙ (sym (and_assoc p b (bit_and a b)) ∙ (ap (λ c. bit_and c p) again ∙ shared))
    where
      again : bit_and b (bit_and a b) ≡ bit_and a b
      again = and_comm b (bit_and a b) ∙ (and_assoc b a b ∙ ap (bit_and a) (and_self b))

abbrev pub IsShared : ℕ → ℕ → Type 0
IsShared a b = (kind : Kind) × (has_bit a kind ≡ true) × (has_bit b kind ≡ true)

shared_bit : (a b : ℕ) (kind : Kind) → has_bit (bit_and a b) kind ≡ true → IsShared a b
shared_bit a b kind has =
    let is = eqb-true (bit_and (bit_and a b) (bit kind)) (bit kind) has in
    (kind, eq-eqb (bit_and a (bit kind)) (bit kind) (in_first a b (bit kind) is), eq-eqb (bit_and b (bit kind)) (bit kind) (in_second a b (bit kind) is))

bit_shared : (a b : ℕ) (kind : Kind) → has_bit a kind ≡ true → has_bit b kind ≡ true → has_bit (bit_and a b) kind ≡ true
bit_shared a b kind x y =
    eq-eqb (bit_and (bit_and a b) (bit kind)) (bit kind)
    (in_shared a b (bit kind) (eqb-true (bit_and a (bit kind)) (bit kind) x) (eqb-true (bit_and b (bit kind)) (bit kind) y))

-- a cell has some bit where it has one of them
any_bit : (c : ℕ) → has_any c ≡ true → (kind : Kind) × (has_bit c kind ≡ true)
any_bit c some =
    elim (or_cases (has_bit c Write) (has_bit c ItemRead || (has_bit c PredicateRead || (has_bit c ItemAnti || has_bit c PredicateAnti))) some) [
      | inl is ↦ (Write, is)
      | inr rest ↦ elim (or_cases (has_bit c ItemRead) (has_bit c PredicateRead || (has_bit c ItemAnti || has_bit c PredicateAnti)) rest) [
        | inl is ↦ (ItemRead, is)
        | inr rest ↦ elim (or_cases (has_bit c PredicateRead) (has_bit c ItemAnti || has_bit c PredicateAnti) rest) [
          | inl is ↦ (PredicateRead, is)
          | inr rest ↦ elim (or_cases (has_bit c ItemAnti) (has_bit c PredicateAnti) rest) [
            | inl is ↦ (ItemAnti, is)
            | inr is ↦ (PredicateAnti, is)
          ]
        ]
      ]
    ]

bit_any : (c : ℕ) (kind : Kind) → has_bit c kind ≡ true → has_any c ≡ true
bit_any c Write is = or_left (has_bit c Write) _ is
bit_any c ItemRead is = or_right (has_bit c Write) _ (or_left (has_bit c ItemRead) _ is)
bit_any c PredicateRead is = or_right (has_bit c Write) _ (or_right (has_bit c ItemRead) _ (or_left (has_bit c PredicateRead) _ is))
bit_any c ItemAnti is = or_right (has_bit c Write) _ (or_right (has_bit c ItemRead) _ (or_right (has_bit c PredicateRead) _ (or_left (has_bit c ItemAnti) _ is)))
bit_any c PredicateAnti is = or_right (has_bit c Write) _ (or_right (has_bit c ItemRead) _ (or_right (has_bit c PredicateRead) _ (or_right (has_bit c ItemAnti) _ is)))

-- two cells share a kind where what they share has some bit
pub some_shared : (a b : ℕ) → (has_any (bit_and a b) ≡ true) ↔ IsShared a b
some_shared a b = (
  λ some. let one = any_bit (bit_and a b) some in shared_bit a b one.0 one.1,
  λ (kind, x, y). bit_any (bit_and a b) kind (bit_shared a b kind x y),
)

-- and none where they share nothing
pub none_shared : (a b : ℕ) → bit_and a b ≡ 0 → IsShared a b → ⊥
none_shared a b nothing (kind, x, y) = false≢true (sym (no_bit kind) ∙ (ap (λ c. has_bit c kind) (sym nothing) ∙ bit_shared a b kind x y))
