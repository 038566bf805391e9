-- An arrow's ends and the marked operation are drawn.
use Rattle.std.{proofs.{Common.{◌≡◌, ℕ, ◌==◌, ◌||◌, Bool, true, not, cond, Some, List, [], ◌∷◌, refl, sym, subst, ap, ◌∙◌, inl, inr}, lemmas.{Bool.{eq-eqb, or_left, or_right}, List.Elements.{Contains-append_cases}}}, specs.{Prelude.{nat_le, Contains, Option}, List.{list_any}}}
use Rattle.lab_table.proofs.Members.{no_member, only_member}
use Rattle.lab_history.specs.History.{History}
use Rattle.lab_picture.{specs.{Columns.{marked_in}, DrawnLaws.{IsDrawnAt}, Few.{is_kept}, Named.{is_at, touches}, Slots.{is_few}, Svg.{arrows_drawn}}, proofs.KeptRows.{at_itself}}
use Rattle.lab_drawing.specs.{Sketch.{Sketch}, declared.drawing.{Arrow.{Arrow}, Spot.{Spot}}}

-- an arrow that touches an operation is among those that do
some_touch : (arrows : List Arrow) (a : Arrow) (n k : ℕ) → Contains arrows a → touches n k a ≡ true → list_any (touches n k) arrows ≡ true
some_touch [] a n k there touch = absurd (no_member a there)
some_touch (x ∷ arrows) a n k there touch = elim (Contains-append_cases (x ∷ []) arrows a there) [
  | inl here ↦
      let same : x ≡ a = only_member x a here in
      or_left (touches n k x) (list_any (touches n k) arrows) (subst (λ (y : Arrow). touches n k y ≡ true) (sym same) touch)
  | inr later ↦ or_right (touches n k x) (list_any (touches n k) arrows) (some_touch arrows a n k later touch)
]

kept_at_arrow : (few : Bool) (arrows : List Arrow) (n m k : ℕ) → list_any (touches n k) arrows ≡ true → is_kept few arrows n m k ≡ true
kept_at_arrow few arrows n m k some =
    or_right (not few) (nat_le k 8 || ((k == m) || list_any (touches n k) arrows))
    (or_right (nat_le k 8) ((k == m) || list_any (touches n k) arrows) (or_right (k == m) (list_any (touches n k) arrows) some))

kept_marked : (few : Bool) (arrows : List Arrow) (n m k : ℕ) → (k == m) ≡ true → is_kept few arrows n m k ≡ true
kept_marked few arrows n m k is =
    or_right (not few) (nat_le k 8 || ((k == m) || list_any (touches n k) arrows))
    (or_right (nat_le k 8) ((k == m) || list_any (touches n k) arrows) (or_left (k == m) (list_any (touches n k) arrows) is))

pub ends_are_drawn : (h : History) (d : Sketch) (a : Arrow) → Contains (arrows_drawn d) a → IsDrawnAt h d a.from × IsDrawnAt h d a.to
ends_are_drawn h d a there =
    let first : touches a.from.txn a.from.op a ≡ true = or_left (is_at a.from.txn a.from.op a.from) (is_at a.from.txn a.from.op a.to) (at_itself a.from) in
    let other : touches a.to.txn a.to.op a ≡ true = or_right (is_at a.to.txn a.to.op a.from) (is_at a.to.txn a.to.op a.to) (at_itself a.to) in (
      kept_at_arrow (is_few h d) (arrows_drawn d) a.from.txn (marked_in d.marked a.from.txn) a.from.op (some_touch (arrows_drawn d) a a.from.txn a.from.op there first),
      kept_at_arrow (is_few h d) (arrows_drawn d) a.to.txn (marked_in d.marked a.to.txn) a.to.op (some_touch (arrows_drawn d) a a.to.txn a.to.op there other),
    )

-- the number of the marked operation in its transaction
own_number : (spot : Spot) → marked_in (Some spot) spot.txn ≡ spot.op
own_number spot = ap (λ b. cond b spot.op 0) (eq-eqb spot.txn spot.txn refl)

pub marked_is_drawn : (h : History) (d : Sketch) (spot : Spot) → d.marked ≡ Some spot → IsDrawnAt h d spot
marked_is_drawn h d spot is =
    kept_marked (is_few h d) (arrows_drawn d) spot.txn (marked_in d.marked spot.txn) spot.op
    (eq-eqb spot.op (marked_in d.marked spot.txn) (sym (ap (λ (m : Option Spot). marked_in m spot.txn) is ∙ own_number spot)))
