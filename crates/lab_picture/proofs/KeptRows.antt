-- A row that an arrow names stands in the boxes at both its ends.
use Rattle.std.proofs.Common.{◌≡◌, ℕ, ◌==◌, ◌≤◌, ◌+◌, Bool, true, false, not, ◌||◌, cond, List, [], ◌∷◌, ◌++◌, length, map, filter, refl, sym, ap, ◌∙◌, subst, append_assoc, inl, inr, arith}
use Rattle.std.specs.{Prelude.{Contains, codes}, List.{list_any}}
use Rattle.std.specs.FinMap as finite
use Rattle.std.proofs.lemmas.{Bool.{false≢true, eqb-true, eq-eqb, and_from, or_left, or_right}, List.{append-nil, length-append, nil_from_length, Elements.{Contains-append_cases}}}
use Rattle.lab_table.{proofs.Members.{no_member, only_member}, specs.Row.{Row, row_test, rows_equiv}}
use Rattle.lab_history.specs.{History.{History}, declared.operation.Op.{Op}}
use Rattle.lab_printing.specs.Printed.{printed_statement}
use Rattle.lab_picture.specs.Boxes.{fits, shown_effect, telling}
use Rattle.lab_picture.specs.Effect.{behind, or_none, is_unlisted, listed_text, written_text, written_lead, effect_text}
use Rattle.lab_picture.specs.Kept.{told_listed, told_written, listed_rows, written_rows, told_rows, tells_named, kept_row, kept_from, kept_lead, kept_text, before_row, before_dots, next_behind, behind_all}
use Rattle.lab_picture.specs.Lines.{all_lines}
use Rattle.lab_picture.specs.Named.{is_at, touches, rows_at}
use Rattle.lab_drawing.specs.{Rows.{is_named}, declared.drawing.{Arrow.{Arrow}, Spot.{Spot}}}
use Rattle.lab_picture.specs.RowLaws.{BoxHas, HasRow}
use Rattle.lab_picture.specs.TextLaws.{StandsIn, Have}
use Rattle.lab_picture.specs.declared.kept.Behind.{Behind, TheVariants.{Nothing}}
use Rattle.lab_picture.proofs.TextLines.{lines_joined, lines_unparted}

-- a text stands in one that goes on before or behind
before_it : (text p w : List ℕ) → StandsIn text w → StandsIn text (p ++ w)
before_it text p w (b, a, e) = (p ++ b, a, ap (λ r. p ++ r) e ∙ sym (append_assoc p b (text ++ a)))

behind_it : (text w q : List ℕ) → StandsIn text w → StandsIn text (w ++ q)
behind_it text w q (b, a, e) =
    (b, a ++ q, ap (λ r. r ++ q) e ∙ append_assoc b (text ++ a) q ∙ ap (λ r. b ++ r) (append_assoc text a q))

-- and in itself behind another
right_behind : (p text : List ℕ) → StandsIn text (p ++ text)
right_behind p text = (p, [], ap (λ r. p ++ r) (sym (append-nil text)))

module _ {X : Type 0} (f : X → Row × List ℕ) (row : Row) (text : List ℕ) where
  -- the first of some told rows, or a later one
  abbrev Told : List X → Type 0
  Told xs = Contains (map f xs) (row, text)

  -- what is told of a row stands in all that is told
  in_behind : (lead : List ℕ) (xs : List X) → Told xs → StandsIn text (behind lead (map (λ x. (f x).1) xs))
  in_behind lead [] there = absurd (no_member (row, text) there)
  in_behind lead (x ∷ xs) there =
      let rest : List ℕ = behind (codes ", ") (map (λ y. (f y).1) xs) in
      elim (Contains-append_cases (f x ∷ []) (map f xs) (row, text) there) [
        | inl here ↦
            let is : f x ≡ (row, text) = only_member (f x) (row, text) here in
            behind_it text (lead ++ (f x).1) rest (subst (λ t. StandsIn text (lead ++ t)) (sym (ap (λ t. t.1) is)) (right_behind lead text))
        | inr later ↦ before_it text (lead ++ (f x).1) rest (in_behind (codes ", ") xs later)
      ]

  module _ (named : List Row) (is : is_named named row ≡ true) where
    -- a row that is named is told
    in_kept : (state : Behind) (xs : List X) → Told xs → StandsIn text (kept_from named state (map f xs))
    in_kept state [] there = absurd (no_member (row, text) there)
    in_kept state (x ∷ xs) there =
        let rest : List ℕ = kept_from named (next_behind named (f x).0) (map f xs) in
        elim (Contains-append_cases (f x ∷ []) (map f xs) (row, text) there) [
          | inl here ↦
              let same : f x ≡ (row, text) = only_member (f x) (row, text) here in
              let kept : kept_row named state (row, text) ≡ before_row state ++ text = ap (λ b. cond b (before_row state ++ text) (before_dots state)) is in
              let shown : StandsIn text (kept_row named state (row, text)) = subst (StandsIn text) (sym kept) (right_behind (before_row state) text) in
              behind_it text (kept_row named state (f x)) rest (subst (λ t. StandsIn text (kept_row named state t)) (sym same) shown)
          | inr later ↦ before_it text (kept_row named state (f x)) rest (in_kept (next_behind named (f x).0) xs later)
        ]

    -- and so some row is
    some_named : (xs : List X) → Told xs → list_any (λ x. is_named named (f x).0) xs ≡ true
    some_named [] there = absurd (no_member (row, text) there)
    some_named (x ∷ xs) there =
        elim (Contains-append_cases (f x ∷ []) (map f xs) (row, text) there) [
          | inl here ↦
              let same : f x ≡ (row, text) = only_member (f x) (row, text) here in
              or_left (is_named named (f x).0) (list_any (λ y. is_named named (f y).0) xs) (subst (λ t. is_named named t.0 ≡ true) (sym same) is)
          | inr later ↦ or_right (is_named named (f x).0) (list_any (λ y. is_named named (f y).0) xs) (some_named xs later)
        ]

-- what some of a list are, some of the whole are
some_kept : {X : Type 0} (p q : X → Bool) (xs : List X) → list_any q (filter p xs) ≡ true → list_any q xs ≡ true
some_kept p q [] some = some
some_kept p q (x ∷ xs) some =
    elim (p x) as (λ b. list_any q (cond b (x ∷ filter p xs) (filter p xs)) ≡ true → list_any q (x ∷ xs) ≡ true) [
      | true ↦ λ is.
          elim (q x) as (λ b. (b || list_any q (filter p xs)) ≡ true → (b || list_any q xs) ≡ true) [
            | true ↦ λ _. refl
            | false ↦ λ later. some_kept p q xs later
          ] is
      | false ↦ λ later. or_right (q x) (list_any q xs) (some_kept p q xs later)
    ] some

-- a text that stands in another stands in what is said where that isn't empty
in_or_none : (text t : List ℕ) → StandsIn text t → StandsIn text (or_none t)
in_or_none text t (b, a, e) =
    elim (length t == 0) as (λ z. (length t == 0) ≡ z → StandsIn text (cond z (codes "-> none") t)) [
      | true ↦ λ is.
          let none = eqb-true (length t) 0 is in
          let long = ap length e ∙ length-append b (text ++ a) in
          let parts = length-append text a in
          let empty : text ≡ [] = nil_from_length text (omega (arith, none, long, parts)) in
          subst (λ s. StandsIn s (codes "-> none")) (sym empty) ([], codes "-> none", refl)
      | false ↦ λ _. (b, a, e)
    ] refl

-- all lines of a text have what stands in it
whole_in_lines : (text shown : List ℕ) → StandsIn text shown → Have (all_lines 28 shown) text
whole_in_lines text shown there =
    let same : length shown ≤ length shown = omega arith in
    let some : 1 ≤ 28 = omega arith in
    (subst (StandsIn text) (sym (lines_joined 28 some shown shown same)) there, lines_unparted 28 some shown shown same)

module _ (op : Op) (row : Row) (text : List ℕ) (there : Contains (told_rows op) (row, text)) where
  -- what is told of a row stands in the whole
  in_whole : StandsIn text (effect_text op)
  in_whole =
      in_or_none text (listed_text op ++ written_text op)
      (elim (Contains-append_cases (listed_rows op) (written_rows op) (row, text) there) [
        | inl listed ↦
            behind_it text (listed_text op) (written_text op) (in_behind (told_listed op.writes) row text (codes "-> ") (finite.entries op.rows) listed)
        | inr written ↦
            before_it text (listed_text op) (written_text op)
            (in_behind told_written row text (written_lead op.rows) (filter (is_unlisted op.rows) (finite.entries op.writes)) written)
      ])

  module _ (named : List Row) (is : is_named named row ≡ true) where
    -- and in what is left of it
    in_left : StandsIn text (kept_text named op)
    in_left =
        let listed_part : List ℕ = kept_from named Nothing (listed_rows op) in
        let written_part : List ℕ = kept_from named (behind_all named Nothing (listed_rows op)) (written_rows op) in
        elim (Contains-append_cases (listed_rows op) (written_rows op) (row, text) there) [
          | inl listed ↦
              behind_it text (kept_lead op.rows ++ listed_part) written_part
              (before_it text (kept_lead op.rows) listed_part (in_kept (told_listed op.writes) row text named is Nothing (finite.entries op.rows) listed))
          | inr written ↦
              before_it text (kept_lead op.rows ++ listed_part) written_part
              (in_kept told_written row text named is (behind_all named Nothing (listed_rows op)) (filter (is_unlisted op.rows) (finite.entries op.writes)) written)
        ]

    -- the operation tells of a row that is named
    tells : tells_named named op ≡ true
    tells =
        elim (Contains-append_cases (listed_rows op) (written_rows op) (row, text) there) [
          | inl listed ↦ or_left _ _ (some_named (told_listed op.writes) row text named is (finite.entries op.rows) listed)
          | inr written ↦
              or_right _ _
              (some_kept (is_unlisted op.rows) (λ x. is_named named x.0) (finite.entries op.writes)
              (some_named told_written row text named is (filter (is_unlisted op.rows) (finite.entries op.writes)) written))
        ]

    -- what stands in the box has it
    in_shown : StandsIn text (shown_effect named op)
    in_shown =
        elim (fits (printed_statement op.statement) (effect_text op)) as (λ b. StandsIn text (cond b (effect_text op) (cond (tells_named named op) (kept_text named op) []))) [
          | true ↦ in_whole
          | false ↦ subst (λ b. StandsIn text (cond b (kept_text named op) [])) (sym tells) in_left
        ]

    -- nothing of that is cut
    uncut : not (fits (printed_statement op.statement) (effect_text op) || tells_named named op) ≡ false
    uncut = ap not (or_right (fits (printed_statement op.statement) (effect_text op)) (tells_named named op) tells)

    pub in_box : BoxHas (telling named op) text
    in_box = (uncut, whole_in_lines text (shown_effect named op) in_shown)

-- the rows at an end of an arrow have its row
named_there : (arrows : List Arrow) (a : Arrow) (n k : ℕ) → Contains arrows a → touches n k a ≡ true → is_named (rows_at arrows n k) a.row ≡ true
named_there [] a n k there touch = absurd (no_member a there)
named_there (x ∷ arrows) a n k there touch =
    elim (touches n k x) as (λ b. touches n k x ≡ b → list_any (λ other. row_test other a.row) (map (λ y. y.row) (cond b (x ∷ filter (touches n k) arrows) (filter (touches n k) arrows))) ≡ true) [
      | true ↦ λ is.
          elim (Contains-append_cases (x ∷ []) arrows a there) [
            | inl here ↦
                let same : x ≡ a = only_member x a here in
                or_left (row_test x.row a.row) (is_named (rows_at arrows n k) a.row) (subst (λ (y : Arrow). row_test y.row a.row ≡ true) (sym same) (rows_equiv.refl a.row))
            | inr later ↦ or_right (row_test x.row a.row) (is_named (rows_at arrows n k) a.row) (named_there arrows a n k later touch)
          ]
      | false ↦ λ isn't.
          elim (Contains-append_cases (x ∷ []) arrows a there) [
            | inl here ↦
                let same : x ≡ a = only_member x a here in
                absurd (false≢true (sym isn't ∙ subst (λ (y : Arrow). touches n k y ≡ true) (sym same) touch))
            | inr later ↦ named_there arrows a n k later touch
          ]
    ] refl

-- an operation is at its own place
pub at_itself : (spot : Spot) → is_at spot.txn spot.op spot ≡ true
at_itself spot = and_from (spot.txn == spot.txn) (spot.op == spot.op) (eq-eqb spot.txn spot.txn refl) (eq-eqb spot.op spot.op refl)

pub at_both_ends : (h : History) (arrows : List Arrow) (a : Arrow) → Contains arrows a → HasRow h arrows a.row a.from × HasRow h arrows a.row a.to
at_both_ends h arrows a there =
    let first = or_left (is_at a.from.txn a.from.op a.from) (is_at a.from.txn a.from.op a.to) (at_itself a.from) in
    let other = or_right (is_at a.to.txn a.to.op a.from) (is_at a.to.txn a.to.op a.to) (at_itself a.to) in (
      λ op text _ told. in_box op a.row text told (rows_at arrows a.from.txn a.from.op) (named_there arrows a a.from.txn a.from.op there first),
      λ op text _ told. in_box op a.row text told (rows_at arrows a.to.txn a.to.op) (named_there arrows a a.to.txn a.to.op there other),
    )
