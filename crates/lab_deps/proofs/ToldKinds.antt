-- Cells that tell which kinds of edges there are.
use Rattle.std.{proofs.Common.{◌≡◌, ◌≢◌, ◌⊎◌, ◌<◌, ◌==◌, ℕ, true, false, cond, List, [], ◌∷◌, ◌++◌, length, get_or, set, refl, sym, ap, ◌∙◌, subst, inl, inr}, specs.Prelude.{Contains, bit_and, bit_or}}
use Rattle.std.proofs.lemmas.{Bool.{cases_eq, eq-eqb, eqb-true}, List.{append-nil, get_or-set_same, get_or-set_other, length-set, Elements.{Contains-append_left, Contains-append_right, Contains-append_cases}}, Nat.{and_or_self, and_or_apart, mul-add-lt, same_from_place}}
use Rattle.lab_table.{specs.Row.{Row}, proofs.Members.{first_member, only_member}}
use Rattle.lab_deps.specs.{Collected.{apart}, KindBits.{bit, has_bit, place, cell_at, edge_of, Tells}, declared.edge.{Edge.{Edge}, Kind.{Kind, TheVariants.{Write, ItemRead, PredicateRead, ItemAnti, PredicateAnti}}}}
use Rattle.lab_deps.proofs.EachKind.{each_kind}

-- two kinds are one, or share no bit
abbrev AreApart : Kind → Kind → Type 0
AreApart a b = (a ≡ b) ⊎ (bit_and (bit a) (bit b) ≡ 0)

pub kinds_apart : (a b : Kind) → (a ≡ b) ⊎ (bit_and (bit a) (bit b) ≡ 0)
kinds_apart =
    each_kind (λ a. (b : Kind) → AreApart a b) (each_kind (AreApart Write) (inl refl) (inr refl) (inr refl) (inr refl) (inr refl))
    (each_kind (AreApart ItemRead) (inr refl) (inl refl) (inr refl) (inr refl) (inr refl)) (each_kind (AreApart PredicateRead) (inr refl) (inr refl) (inl refl) (inr refl) (inr refl))
    (each_kind (AreApart ItemAnti) (inr refl) (inr refl) (inr refl) (inl refl) (inr refl)) (each_kind (AreApart PredicateAnti) (inr refl) (inr refl) (inr refl) (inr refl) (inl refl))

pub bit_set : (c : ℕ) (k : Kind) → has_bit (bit_or c (bit k)) k ≡ true
bit_set c k = eq-eqb (bit_and (bit_or c (bit k)) (bit k)) (bit k) (and_or_self (bit k) c)

pub bit_other : (c : ℕ) (k j : Kind) → bit_and (bit k) (bit j) ≡ 0 → has_bit (bit_or c (bit k)) j ≡ has_bit c j
bit_other c k j off = ap (λ x. x == bit j) (and_or_apart (bit j) c (bit k) off)

pub bit_kept : (c : ℕ) (k j : Kind) → has_bit c j ≡ true → has_bit (bit_or c (bit k)) j ≡ true
bit_kept c k j has =
    elim (kinds_apart k j) [
      | inl same ↦ subst (λ i. has_bit (bit_or c (bit k)) i ≡ true) same (bit_set c k)
      | inr off ↦ bit_other c k j off ∙ has
    ]

module _ (ps : List ℕ) (w : ℕ) (cs made : List ℕ) (es : List Edge) (t : Tells ps w cs made es) (e : Edge) where
  abbrev at : ℕ
  at = cell_at ps w e.from e.to

  abbrev next : List ℕ
  next = set cs at (bit_or (get_or cs at 0) (bit e.kind))

  within : at < length cs
  within = subst (λ n. at < n) (sym t.square) (mul-add-lt (place ps e.from) w (place ps e.to) w (t.below e.from) (t.below e.to))

  here : get_or next at 0 ≡ bit_or (get_or cs at 0) (bit e.kind)
  here = get_or-set_same cs at (bit_or (get_or cs at 0) (bit e.kind)) 0 within

  there : (k : ℕ) → k ≢ at → get_or next k 0 ≡ get_or cs k 0
  there k other = get_or-set_other cs at k (bit_or (get_or cs at 0) (bit e.kind)) 0 other

  kept : (k : ℕ) (kind : Kind) → has_bit (get_or cs k 0) kind ≡ true → has_bit (get_or next k 0) kind ≡ true
  kept k kind has =
      elim (cases_eq k at) [
        | inl same ↦ subst (λ i. has_bit (get_or next i 0) kind ≡ true) (sym same)
            (ap (λ c. has_bit c kind) here ∙ bit_kept (get_or cs at 0) e.kind kind (subst (λ i. has_bit (get_or cs i 0) kind ≡ true) same has))
        | inr other ↦ ap (λ c. has_bit c kind) (there k other) ∙ has
      ]

  set_here : has_bit (get_or next at 0) e.kind ≡ true
  set_here = ap (λ c. has_bit c e.kind) here ∙ bit_set (get_or cs at 0) e.kind

  abbrev Among : List Edge → ℕ → ℕ → Kind → Type 0
  Among fs from to kind = (row : Row) × Contains fs (edge_of from to kind row)

  more : (from to : ℕ) (kind : Kind) → Among es from to kind → Among (es ++ e ∷ []) from to kind
  more from to kind (row, found) = (row, Contains-append_left es (e ∷ []) (edge_of from to kind row) found)

  last_is : (from to : ℕ) (kind : Kind) → from ≡ e.from → to ≡ e.to → e.kind ≡ kind → Among (es ++ e ∷ []) from to kind
  last_is from to kind a b c =
      let is : e ≡ edge_of from to kind e.row =
      ap (λ f. edge_of f e.to e.kind e.row) (sym a) ∙ (ap (λ t. edge_of from t e.kind e.row) (sym b) ∙ ap (λ k. edge_of from to k e.row) c) in
      (e.row, subst (Contains (es ++ e ∷ [])) is (Contains-append_right es (e ∷ []) e (first_member e [])))

  was_told : (from to : ℕ) (kind : Kind) → from ≢ to → place ps from ≢ 0 → place ps to ≢ 0 → has_bit (get_or next (cell_at ps w from to) 0) kind ≡ true → Among (es ++ e ∷ []) from to kind
  was_told from to kind d a b has =
      elim (cases_eq (cell_at ps w from to) at) [
        | inl same ↦
            let places = same_from_place (place ps from) (place ps to) (place ps e.from) (place ps e.to) w (t.below to) (t.below e.to) same in
            let has_here : has_bit (bit_or (get_or cs at 0) (bit e.kind)) kind ≡ true =
            sym (ap (λ c. has_bit c kind) here) ∙ subst (λ i. has_bit (get_or next i 0) kind ≡ true) same has in
            elim (kinds_apart e.kind kind) [
              | inl is ↦ last_is from to kind (t.apart from e.from places.0 a) (t.apart to e.to places.1 b) is
              | inr off ↦ more from to kind ((t.exact from to kind d a b).0
                  (subst (λ i. has_bit (get_or cs i 0) kind ≡ true) (sym same) (sym (bit_other (get_or cs at 0) e.kind kind off) ∙ has_here)))
            ]
        | inr other ↦ more from to kind ((t.exact from to kind d a b).0 (sym (ap (λ c. has_bit c kind) (there (cell_at ps w from to) other)) ∙ has))
      ]

  is_told : (from to : ℕ) (kind : Kind) → from ≢ to → place ps from ≢ 0 → place ps to ≢ 0 → Among (es ++ e ∷ []) from to kind → has_bit (get_or next (cell_at ps w from to) 0) kind ≡ true
  is_told from to kind d a b (row, found) =
      elim (Contains-append_cases es (e ∷ []) (edge_of from to kind row) found) [
        | inl before ↦ kept (cell_at ps w from to) kind ((t.exact from to kind d a b).1 (row, before))
        | inr now ↦ subst (λ (f : Edge). has_bit (get_or next (cell_at ps w f.from f.to) 0) f.kind ≡ true) (only_member e (edge_of from to kind row) now) set_here
      ]

  -- an edge's bit is set
  pub told_next : Tells ps w next made (es ++ e ∷ [])
  told_next = record {
    same = t.same;
    square = length-set cs at (bit_or (get_or cs at 0) (bit e.kind)) ∙ t.square;
    below = t.below;
    apart = t.apart;
    exact = λ from to kind d a b. (was_told from to kind d a b, is_told from to kind d a b);
  }

  -- the bit of one from a transaction to itself tells nothing
  pub told_apart : Tells ps w next made (es ++ apart e)
  told_apart =
      elim (e.from == e.to) as (λ b. (e.from == e.to) ≡ b → Tells ps w next made (es ++ cond b [] (e ∷ []))) [
        | true ↦ λ own. record {
          same = told_next.same;
          square = told_next.square;
          below = told_next.below;
          apart = told_next.apart;
          exact = λ from to kind d a b. (
            λ has.
                let (row, found) = (told_next.exact from to kind d a b).0 has in
                elim (Contains-append_cases es (e ∷ []) (edge_of from to kind row) found) [
                  | inl before ↦ (row, Contains-append_left es [] (edge_of from to kind row) before)
                  | inr now ↦ absurd (d (subst (λ (f : Edge). f.from ≡ f.to) (only_member e (edge_of from to kind row) now) (eqb-true e.from e.to own)))
                ],
            λ (row, found). (told_next.exact from to kind d a b).1 (more from to kind (row, subst (λ fs. Contains fs (edge_of from to kind row)) (append-nil es) found)),
          );
        }
        | false ↦ λ _. told_next
      ] refl

module _ (ps : List ℕ) (w : ℕ) (cs made : List ℕ) (es : List Edge) (t : Tells ps w cs made es) where
  -- what a cell has that stands for no two transactions tells nothing
  pub told_off : (k cell : ℕ) → ((from to : ℕ) → from ≢ to → place ps from ≢ 0 → place ps to ≢ 0 → cell_at ps w from to ≢ k) → Tells ps w (set cs k cell) made es
  told_off k cell off =
      let same : (from to : ℕ) (kind : Kind) → from ≢ to → place ps from ≢ 0 → place ps to ≢ 0 → has_bit (get_or (set cs k cell) (cell_at ps w from to) 0) kind ≡ has_bit (get_or cs (cell_at ps w from to) 0) kind =
      λ from to kind d a b. ap (λ c. has_bit c kind) (get_or-set_other cs k (cell_at ps w from to) cell 0 (off from to d a b)) in
      record {
        same = t.same;
        square = length-set cs k cell ∙ t.square;
        below = t.below;
        apart = t.apart;
        exact = λ from to kind d a b. (
          λ has. (t.exact from to kind d a b).0 (sym (same from to kind d a b) ∙ has),
          λ found. same from to kind d a b ∙ (t.exact from to kind d a b).1 found,
        );
      }
