-- A run of parts in the orders, or with the places, of its parts.
use Rattle.std.{proofs.{Common.{List, [], ◌∷◌, map, sym, ◌∙◌}, lemmas.List.Elements.{All-head, All-tail}}, specs.List.{All}}
use Rattle.lab_judge.specs.Runs.{IsSerialRun, IsSnapshotRun}
use Rattle.lab_parts.{specs.{Whole.{whole, Fits}, WholeRuns.{Ordered, Placed, whole_order, whole_spans}}, proofs.{JoinedOrders.{both_serial}, JoinedSpans.{both_placed}, WholeSound.{whole_initial}}}

-- in the orders of the parts, one behind the other
pub whole_serial : (first : Ordered) (others : List Ordered) → IsSerialRun first.part first.order → All (λ o. IsSerialRun o.part o.order) others
    → Fits first.part (map (λ o. o.part) others) → IsSerialRun (whole first.part (map (λ o. o.part) others)) (whole_order first others)
whole_serial first [] p q fits = p
whole_serial first (next ∷ others) p q fits =
    both_serial first.part (whole next.part (map (λ o. o.part) others)) first.order (whole_order next others) p
    (whole_serial next others (All-head (λ o. IsSerialRun o.part o.order) next others q) (All-tail (λ o. IsSerialRun o.part o.order) next others q) fits.1)
    (fits.0 ∙ sym (whole_initial next.part (map (λ o. o.part) others)))

-- and with their places, those of each behind those before
pub whole_placed : (first : Placed) (others : List Placed) → IsSnapshotRun first.part first.spans → All (λ o. IsSnapshotRun o.part o.spans) others
    → Fits first.part (map (λ o. o.part) others) → IsSnapshotRun (whole first.part (map (λ o. o.part) others)) (whole_spans first others)
whole_placed first [] p q fits = p
whole_placed first (next ∷ others) p q fits =
    both_placed first (record { part = whole next.part (map (λ o. o.part) others); spans = whole_spans next others }) p
    (whole_placed next others (All-head (λ o. IsSnapshotRun o.part o.spans) next others q) (All-tail (λ o. IsSnapshotRun o.part o.spans) next others q) fits.1)
    (fits.0 ∙ sym (whole_initial next.part (map (λ o. o.part) others)))
