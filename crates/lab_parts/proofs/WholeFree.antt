-- Of sound parts that fit a run is free of what each part is free of, and has the lowest of their levels.
use Rattle.std.{proofs.{Common.{◌≡◌, List, [], ◌∷◌, map, sym, ◌∙◌}, lemmas.List.Elements.{All-nil, All-cons, All-head, All-tail}}, specs.{Prelude.{◌↔◌}, List.{All}}}
use Rattle.lab_history.specs.History.{History}
use Rattle.lab_deps.specs.Soundness.{IsSound}
use Rattle.lab_judge.specs.Phenomena.{IsGrade}
use Rattle.lab_parts.specs.{Whole.{whole, Fits}, WholeFindings.{Graded, IsFreeByParts, least_of}}
use Rattle.lab_parts.proofs.{JoinedEdges.{edge_up_first, edge_up_second, edges_joined}, JoinedSound.{joined_sound}, WholeSound.{whole_initial, whole_sound}, SplitKinds.{SplitsFree}, SplitLevels.{least_level}, SplitWalks.{Splits}}

-- a part and the run of those behind it
pub splits_ahead : (first part : History) (parts : List History) → IsSound first → Fits first (part ∷ parts) → Splits first (whole part parts)
splits_ahead first part parts sound fits =
    let seam : first.end_table ≡ (whole part parts).initial = fits.0 ∙ sym (whole_initial part parts) in
    record {
      first = edge_up_first first (whole part parts) sound seam;
      second = edge_up_second first (whole part parts) sound seam;
      each = edges_joined first (whole part parts) sound seam;
    }

module _ (IsFree : History → Type 0) (split : (a b : History) → Splits a b → SplitsFree IsFree a b) where
  -- what two parts are free of where each of them is, a run is where each part is
  pub free_by_parts : IsFreeByParts IsFree
  free_by_parts first [] sound all fits = ((λ free. (free, All-nil IsFree)), (λ free. free.0))
  free_by_parts first (part ∷ parts) sound all fits =
      let both : SplitsFree IsFree first (whole part parts) = split first (whole part parts) (splits_ahead first part parts sound fits) in
      let rest : IsFree (whole part parts) ↔ (IsFree part × All IsFree parts) = free_by_parts part parts (All-head IsSound part parts all) (All-tail IsSound part parts all) fits.1 in (
        (λ free. let behind : IsFree part × All IsFree parts = rest.0 (both.0 free).1 in ((both.0 free).0, All-cons IsFree part parts behind.0 behind.1)),
        (λ free. both.1 (free.0, rest.1 (All-head IsFree part parts free.1, All-tail IsFree part parts free.1))),
      )

-- the level of a run
pub whole_level : (first : Graded) (others : List Graded) → IsSound first.part → All IsSound (map (λ o. o.part) others) → Fits first.part (map (λ o. o.part) others)
    → IsGrade first.part first.level → All (λ o. IsGrade o.part o.level) others → IsGrade (whole first.part (map (λ o. o.part) others)) (least_of first.level (map (λ o. o.level) others))
whole_level first [] sound all fits is each = is
whole_level first (next ∷ others) sound all fits is each =
    let parts : List History = map (λ o. o.part) others in
    let next_sound : IsSound next.part = All-head IsSound next.part parts all in
    let rest_sound : All IsSound parts = All-tail IsSound next.part parts all in
    let seam : first.part.end_table ≡ (whole next.part parts).initial = fits.0 ∙ sym (whole_initial next.part parts) in
    least_level first.part (whole next.part parts) (splits_ahead first.part next.part parts sound fits) sound (whole_sound next.part parts next_sound rest_sound fits.1)
    (joined_sound first.part (whole next.part parts) sound (whole_sound next.part parts next_sound rest_sound fits.1) seam)
    first.level (least_of next.level (map (λ o. o.level) others)) is
    (whole_level next others next_sound rest_sound fits.1 (All-head (λ o. IsGrade o.part o.level) next others each) (All-tail (λ o. IsGrade o.part o.level) next others each))
