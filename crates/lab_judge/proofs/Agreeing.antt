-- Two judgements of one history have the same verdicts.
use Rattle.std.proofs.Common.{◌≡◌, ap}
use Rattle.lab_history.specs.History.{History}
use Rattle.lab_deps.{proofs.FaultOrders.{one_first}, specs.KindSets.{is_any}}
use Rattle.lab_order.proofs.{BackCircles.{one_circle}, Least.{neither_after}}
use Rattle.lab_judge.specs.{Judgement.{IsSerialVerdict, IsSnapshotVerdict, RestsOnOrder, RestsOnPlaces, IsExactJudgement}, BackPoints.{HasBackCircle}, LeastPlaces.{IsLower, IsLeastPlacing}, LeastWalks.{HasDueWalk}, Places.{IsArrow}, Verdicts.{IsLeastOrder}}
use Rattle.lab_judge.specs.declared.{places.Places.{Places}, report.Report.{Report}, serial.Serial.{Serial}}
use Rattle.lab_judge.specs.declared.places.Places.TheVariants as places
use Rattle.lab_judge.specs.declared.serial.Serial.TheVariants as serial
use Rattle.lab_judge.proofs.{Excludes.{no_closed_walk, no_circle}, OnePlacing.{not_both, lower_cases, one_least_placing}, OneWalk.{one_back_walk}}

module _ (h : History) where
  orders : (s t : Serial) → IsSerialVerdict h s → IsSerialVerdict h t → RestsOnOrder h s → RestsOnOrder h t → IsLeastOrder h s → IsLeastOrder h t → HasDueWalk h s → HasDueWalk h t → s ≡ t
  orders (serial.Yes one) (serial.Yes other) v w r q l m x y = ap serial.Yes (neither_after one other (l other q.1 q.2) (m one r.1 r.2))
  orders (serial.Yes one) (serial.NoFault fault) v w r q l m x y = absurd (r.0 fault w.0)
  orders (serial.Yes one) (serial.NoCycle walk) v w r q l m x y = absurd (no_closed_walk h one walk r.2 w.1)
  orders (serial.NoFault fault) (serial.Yes other) v w r q l m x y = absurd (q.0 fault v.0)
  orders (serial.NoFault fault) (serial.NoFault same) v w r q l m x y = ap serial.NoFault (one_first h fault same v w)
  orders (serial.NoFault fault) (serial.NoCycle walk) v w r q l m x y = absurd (w.0 fault v.0)
  orders (serial.NoCycle walk) (serial.Yes other) v w r q l m x y = absurd (no_closed_walk h other walk q.2 v.1)
  orders (serial.NoCycle walk) (serial.NoFault fault) v w r q l m x y = absurd (v.0 fault w.0)
  orders (serial.NoCycle walk) (serial.NoCycle other) v w r q l m x y = ap serial.NoCycle (one_back_walk h is_any walk other x y)

  placings : (s t : Places) → IsSnapshotVerdict h s → IsSnapshotVerdict h t → RestsOnPlaces h s → RestsOnPlaces h t → IsLeastPlacing h s → IsLeastPlacing h t → HasBackCircle h s → HasBackCircle h t → s ≡ t
  placings (places.Yes one) (places.Yes other) v w r q l m c d = ap places.Yes (one_least_placing h one other r.1 q.1 l m)
  placings (places.Yes one) (places.NoFault fault) v w r q l m c d = absurd (r.0 fault w.0)
  placings (places.Yes one) (places.NoCycle points) v w r q l m c d = absurd (no_circle h one points r.3 w.1)
  placings (places.NoFault fault) (places.Yes other) v w r q l m c d = absurd (q.0 fault v.0)
  placings (places.NoFault fault) (places.NoFault same) v w r q l m c d = ap places.NoFault (one_first h fault same v w)
  placings (places.NoFault fault) (places.NoCycle points) v w r q l m c d = absurd (w.0 fault v.0)
  placings (places.NoCycle points) (places.Yes other) v w r q l m c d = absurd (no_circle h other points q.3 v.1)
  placings (places.NoCycle points) (places.NoFault fault) v w r q l m c d = absurd (v.0 fault w.0)
  placings (places.NoCycle points) (places.NoCycle other) v w r q l m c d = ap places.NoCycle (one_circle IsLower (IsArrow h) lower_cases not_both points other c d)

  pub serial_agrees : (one other : Report) → IsExactJudgement h one → IsExactJudgement h other → one.serial ≡ other.serial
  serial_agrees one other a b = orders one.serial other.serial a.judgement.serial b.judgement.serial a.order b.order a.least b.least a.walk b.walk

  pub snapshot_agrees : (one other : Report) → IsExactJudgement h one → IsExactJudgement h other → one.snapshot ≡ other.snapshot
  snapshot_agrees one other a b = placings one.snapshot other.snapshot a.judgement.snapshot b.judgement.snapshot a.placing b.placing a.places b.places a.circle b.circle
