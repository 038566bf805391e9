-- Engines that have installed the same tell the same rows.
use Rattle.std.{proofs.{Common.{◌≡◌, ℕ, ◌≤◌, true, List, [], ◌∷◌, Option, Some, None, refl, sym, ap, ◌∙◌, take}, lemmas.List.{take-take, Elements.{All-head, All-tail}}}, specs.{Prelude.{◌&&◌, cond, map, slice_get, IfSome}, FinMap.{entries}, List.{All}}}
use Rattle.lab_commands.specs.Overwriting.{put_each}
use Rattle.lab_compare.{specs.{Alike.{all_alike, differing_text, groups_text}, Behind.{installed_at, rows_at, rows_behind, rows_told}, Shared.{BeginSame}, declared.{side.Side.{Side}, telling.Content.TheVariants.{Rows}}}, proofs.SameTold.{alike_Decides}}

-- how many writes are installed behind a side's line at a place
abbrev pub at_place : ℕ → Side → Option ℕ
at_place place side = installed_at side.commits (slice_get side.summary.cells place)

-- where they have so many in common, the rows behind these are the same
same_rows : (most : ℕ) (one other : Side) → BeginSame most one other → (count : Option ℕ) → IfSome count (λ n. n ≤ most) → rows_at one.commits count ≡ rows_at other.commits count
same_rows most one other same None within = refl
same_rows most one other same (Some n) within =
    let writes = sym (take-take n most one.commits.installs within) ∙ ap (take n) same.1 ∙ take-take n most other.commits.installs within in
    λ i. entries (put_each (writes i) (same.0 i))

module _ (most place : ℕ) (count : Option ℕ) (within : IfSome count (λ n. n ≤ most)) (first : Side) (at : at_place place first ≡ count) where
  same_behind : (other : Side) → BeginSame most first other → at_place place other ≡ count → rows_behind place first ≡ rows_behind place other
  same_behind other same there = ap (rows_at first.commits) at ∙ same_rows most first other same count within ∙ ap (rows_at other.commits) (sym there)

  all_same : (others : List Side) → All (BeginSame most first) others → All (λ other. at_place place other ≡ count) others → all_alike (rows_told place first) (map (rows_told place) others) ≡ true
  all_same [] same there = refl
  all_same (other ∷ others) same there =
      let here = (alike_Decides (rows_told place first) (rows_told place other)).1
      (ap Rows (same_behind other (All-head (BeginSame most first) other others same) (All-head (λ o. at_place place o ≡ count) other others there))) in
      let rest = all_same others (All-tail (BeginSame most first) other others same) (All-tail (λ o. at_place place o ≡ count) other others there) in
      λ i. here i && rest i

  -- so there is nothing to tell
  pub none_differ : (others : List Side) → All (BeginSame most first) others → All (λ other. at_place place other ≡ count) others → (mark : List ℕ) → differing_text mark (map (rows_told place) (first ∷ others)) ≡ []
  none_differ others same there mark =
      ap (λ b. cond b [] (groups_text mark (map (rows_told place) (first ∷ others)))) (all_same others same there)
