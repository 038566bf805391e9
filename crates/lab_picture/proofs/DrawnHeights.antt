-- How many operations of a column are drawn at most, and how high a picture is.
use Rattle.std.{proofs.{Common.{◌≡◌, ◌≤◌, ℕ, ◌+◌, ◌*◌, ◌/◌, Bool, true, false, cond, nat_lt, Option, List, [], ◌∷◌, length, refl, subst, inl, inr, ltb-false, mul-le-mul, length-take, arith}, lemmas.List.Elements.{Contains-append_cases}}, specs.Prelude.{Contains, max, min}}
use Rattle.lab_table.proofs.Members.{no_member, only_member, first_member, later_member}
use Rattle.lab_history.specs.{History.{History}, Version.{ops_of}}
use Rattle.lab_picture.specs.{Columns.{marked_in, most_from, most_ops, shown_columns}, DrawnLaws.{limit, DrawsFew, IsLow}, Few.{is_kept}, Layout.{distance}, Slots.{is_few, drawn_of, most_drawn}, Svg.{arrows_drawn, frame_of, goes_below}, Values.{value_lines}}
use Rattle.lab_drawing.specs.{Sketch.{Sketch}, declared.drawing.{Arrow.{Arrow}, Spot.{Spot}}}
use Rattle.lab_picture.proofs.{DrawnCounts.{count_all, count_few}, LowHeadings.{head_low}}

module _ (h : History) where
  grows : (most : ℕ) (ns : List ℕ) → most ≤ most_from h most ns
  grows most [] = omega arith
  grows most (n ∷ ns) = omega (arith, grows (max most (length (ops_of h n))) ns)

  -- no transaction is longer than the longest
  longest : (most : ℕ) (ns : List ℕ) (n : ℕ) → Contains ns n → length (ops_of h n) ≤ most_from h most ns
  longest most [] n there = absurd (no_member n there)
  longest most (m ∷ ns) n there = elim (Contains-append_cases (m ∷ []) ns n there) [
    | inl here ↦
        let same : m ≡ n = only_member m n here in
        subst (λ k. length (ops_of h k) ≤ most_from h most (m ∷ ns)) same (omega (arith, grows (max most (length (ops_of h m))) ns))
    | inr later ↦ longest (max most (length (ops_of h m))) ns n later
  ]

  -- nor are more drawn than of each
  module _ (few : Bool) (arrows : List Arrow) (marked : Option Spot) (bound : ℕ) where
    most_within : (most : ℕ) (ns : List ℕ) → most ≤ bound → ((n : ℕ) → Contains ns n → drawn_of h few arrows marked n ≤ bound) → most_drawn h few arrows marked most ns ≤ bound
    most_within most [] low each = low
    most_within most (n ∷ ns) low each =
        most_within (max most (drawn_of h few arrows marked n)) ns (omega (arith, each n (first_member n ns))) (λ m there. each m (later_member n ns m there))

  drawn_few : (arrows : List Arrow) (marked : Option Spot) (ns : List ℕ) (few : Bool) → nat_lt 24 (most_ops h ns) ≡ few
      → (n : ℕ) → Contains ns n → drawn_of h few arrows marked n ≤ max 24 (9 + 2 * length arrows)
  drawn_few arrows marked ns true is n there = omega (arith, count_few arrows n (marked_in marked n) (length (ops_of h n)))
  drawn_few arrows marked ns false is n there =
      let short : most_ops h ns ≤ 24 = ltb-false 24 (most_ops h ns) is in
      omega (arith, count_all (is_kept false arrows n (marked_in marked n)) (length (ops_of h n)), longest 0 ns n there)

  pub draws_few : (d : Sketch) (n : ℕ) → Contains (shown_columns d.columns) n → DrawsFew h d n
  draws_few d n there = drawn_few (arrows_drawn d) d.marked (shown_columns d.columns) (is_few h d) refl n there

-- bands of so many boxes, with what stands above and below
low : (head columns far most bound lines : ℕ) (round : Bool) → head ≤ 276 → columns ≤ 40 → most ≤ bound → lines ≤ 41
    → (head + (columns + 2) / 3 * (30 + far * most + cond round 30 0)) + 14 * lines ≤ 850 + 14 * (60 + far * bound)
low head columns far most bound lines round above few drawn below =
    let boxes : far * most ≤ far * bound = mul-le-mul (omega arith) drawn in
    let bands : (columns + 2) / 3 ≤ 14 = omega arith in
    let free : cond round 30 0 ≤ 30 = elim round as (λ b. cond b 30 0 ≤ 30) [ true ↦ omega arith | false ↦ omega arith ] in
    let each : 30 + far * most + cond round 30 0 ≤ 60 + far * bound = omega (arith, boxes, free) in
    let all : (columns + 2) / 3 * (30 + far * most + cond round 30 0) ≤ 14 * (60 + far * bound) = mul-le-mul bands each in
    omega (arith, all)

shown_few : (columns : List ℕ) → length (shown_columns columns) ≤ 40
shown_few columns = omega (arith, length-take (min (length columns) 40) columns)

pub is_low : (h : History) (d : Sketch) → IsLow h d
is_low h d =
    let columns : List ℕ = shown_columns d.columns in
    let most : most_drawn h (is_few h d) (arrows_drawn d) d.marked 0 columns ≤ limit d =
    most_within h (is_few h d) (arrows_drawn d) d.marked (limit d) 0 columns (omega arith) (λ n there. draws_few h d n there) in
    low (frame_of h d).head (length columns) (distance (frame_of h d)) (frame_of h d).most (limit d) (value_lines d.rows) (goes_below d)
    (head_low (is_few h d) d) (shown_few d.columns) most (omega arith)
