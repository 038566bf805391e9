-- A run that is said to be a snapshot run.
use Rattle.std.{proofs.{Common.{◌≡◌, ◌≢◌, ℕ, List, [], ◌∷◌, refl, sym, ap, ◌∙◌, subst}, lemmas.List.Elements.{All-nil, All-cons}}, specs.List.{All, AllZip}}
use Rattle.lab_judge.specs.{Judgement.{IsSnapshotVerdict}, Runs.{Span, IsSnapshotRun}, declared.places.Places.{Places}}
use Rattle.lab_judge.specs.declared.places.Places.TheVariants as places
use Rattle.lab_parts.{specs.WholeRuns.{Placed}, proofs.WholeOrders.{whole_placed}}
use Rattle.lab_chain.{specs.{Chain.{Part, IsPart, summary_of}, ChainLaws.{IsPlacedOf, IsSnapshotInParts}, Parts.{part_summary, snapshot_line}, declared.line.Line.TheVariants.{Clear}}, proofs.{FittingParts.{WasJudged, was_judged, AreFitting, fitting}, PartSummaries.{of_part}}}

-- a clear line is that of a yes
yes_is : (name : List ℕ) (s : Places) → snapshot_line name s ≡ Clear → (spans : List Span) × (s ≡ places.Yes spans)
yes_is name (places.Yes spans) clear = (spans, refl)
yes_is name (places.NoFault f) clear = absurd cc
yes_is name (places.NoCycle points) clear = absurd cc

part_of_yes : (p : Part) → IsPart p → (of_part p).lines.snapshot ≡ Clear → (o : Placed) × IsPlacedOf p o
part_of_yes p is clear =
    let j : WasJudged p = was_judged (λ l. l.snapshot) (λ name c. absurd cc) p is clear in
    let said : (spans : List Span) × (j.1.snapshot ≡ places.Yes spans) = yes_is p.name j.1.snapshot (sym (ap (λ o. (part_summary p.name o).lines.snapshot) j.2.judged) ∙ clear) in
    (record { part = j.0; spans = said.0 }, (j.1, j.2, said.1))

fitting_yes : (p : Part) (ps : List Part) → All IsPart (p ∷ ps) → (summary_of (p ∷ ps)).lines.snapshot ≡ Clear → AreFitting (λ (o : Placed). o.part) IsPlacedOf (p ∷ ps)
fitting_yes p ps all clear = fitting (λ (o : Placed). o.part) IsPlacedOf (λ p o says. (says.0, says.1)) (λ l. l.snapshot) (λ a b. refl) (λ name row c. absurd cc) part_of_yes p ps all clear

-- the places of a yes are a snapshot run
yes_runs : (p : Part) (o : Placed) → IsPlacedOf p o → IsSnapshotRun o.part o.spans
yes_runs p o says = subst (IsSnapshotVerdict o.part) says.2 says.1.exact.judgement.snapshot

all_run : (ps : List Part) (os : List Placed) → AllZip IsPlacedOf ps os → All (λ o. IsSnapshotRun o.part o.spans) os
all_run [] [] each = All-nil (λ o. IsSnapshotRun o.part o.spans)
all_run [] (o ∷ os) each = absurd each
all_run (p ∷ ps) [] each = absurd each
all_run (p ∷ ps) (o ∷ os) each = All-cons (λ o. IsSnapshotRun o.part o.spans) o os (yes_runs p o each.0) (all_run ps os each.1)

pub snapshot_in_parts : (ps : List Part) → ps ≢ [] → All IsPart ps → (summary_of ps).lines.snapshot ≡ Clear → IsSnapshotInParts ps
snapshot_in_parts [] some all clear = absurd (some refl)
snapshot_in_parts (p ∷ ps) some all clear =
    let f : AreFitting (λ (o : Placed). o.part) IsPlacedOf (p ∷ ps) = fitting_yes p ps all clear in
    record { first = f.first; others = f.others; yes = f.each; fit = f.fit; runs = whole_placed f.first f.others (yes_runs p f.first f.each.0) (all_run ps f.others f.each.1) f.fit }
