-- Verdicts and findings as a judgement.
use Rattle.std.proofs.Common.{List, refl}
use Rattle.lab_order.{specs.{Knots.{IsBack}}, proofs.Trails.{ring_of}}
use Rattle.lab_history.specs.History.{History}
use Rattle.lab_deps.specs.{FaultOrder.{IsFirst}, KindSets.{is_any}, Soundness.{IsSound}, declared.fault.LocalFault.{LocalFault}}
use Rattle.lab_judge.specs.{Due.{IsDueSerial, IsDuePlaces, JudgesDue}, Places.{IsArrow}}
use Rattle.lab_judge.specs.{Judgement.{IsSerialVerdict, IsSnapshotVerdict, SameFault, Judges, JudgesAll, JudgesAtFault, RestsOnOrder, RestsOnPlaces, IsExactJudgement}, BackPoints.{HasBackCircle}, LeastPlaces.{IsLower, IsLeastPlacing}, LeastWalks.{HasDueWalk, FindsDueWalks}, Verdicts.{IsLeastOrder}}
use Rattle.lab_judge.specs.declared.{places.Places.{Places}, report.{Finding.{Finding}, Grade.{Grade}, Report.{Report}}, serial.Serial.{Serial}}
use Rattle.lab_judge.specs.declared.places.Places.TheVariants as places
use Rattle.lab_judge.specs.declared.serial.Serial.TheVariants as serial
use Rattle.lab_judge.proofs.{LeastWalks.{back_closed}, Orders.{is_serial}, Placings.{is_snapshot}, SnapshotVerdicts.{distinct, forward}}

module _ (h : History) (sound : IsSound h) where
  -- the due order or cycle is a verdict that rests on its law
  serial_of : (s : Serial) → IsDueSerial h s → IsSerialVerdict h s × RestsOnOrder h s × IsLeastOrder h s × HasDueWalk h s
  serial_of (serial.Yes order) (once, ahead, least) = (is_serial h sound order once ahead, (sound, once, ahead), least, tt)
  serial_of (serial.NoFault fault) due = absurd due
  serial_of (serial.NoCycle walk) due = ((sound, (back_closed h is_any walk due).0), tt, tt, due)

  -- and so are the due places or cycle
  snapshot_of : (p : Places) → IsDuePlaces h p → IsSnapshotVerdict h p × RestsOnPlaces h p × IsLeastPlacing h p × HasBackCircle h p
  snapshot_of (places.Yes spans) (once, (points, least, along)) =
      let apart = distinct h points least.is_one spans once along in
      let ahead = forward h points least.is_one spans once along in
      (is_snapshot h sound spans once apart ahead, (sound, once, apart, ahead), (points, least, along), tt)
  snapshot_of (places.NoFault fault) due = absurd due
  snapshot_of (places.NoCycle points) due = ((sound, ring_of (IsBack IsLower (IsArrow h)) (IsArrow h) (λ p q back. back.arrow) points due.back), tt, tt, due)

  -- neither answers a fault
  no_fault : (s : Serial) (p : Places) → IsDueSerial h s → IsDuePlaces h p → SameFault s p
  no_fault (serial.NoFault fault) p due q = absurd due
  no_fault s (places.NoFault fault) q due = absurd due
  no_fault s p q due = tt

  -- and everything is judged
  all_judged : (s : Serial) → IsDueSerial h s → (found : List Finding) (grade : Grade) → JudgesAll h found grade → Judges h s found grade
  all_judged (serial.NoFault fault) due found grade judges = absurd due
  all_judged s due found grade judges = judges

  -- so they make a judgement
  pub of_sound : (report : Report) → IsDueSerial h report.serial → IsDuePlaces h report.snapshot → JudgesDue h report.phenomena report.level → IsExactJudgement h report
  of_sound report s p judges =
      let order = serial_of report.serial s in
      let placing = snapshot_of report.snapshot p in
      record {
        judgement = record {
          serial = order.0;
          snapshot = placing.0;
          fault = no_fault report.serial report.snapshot s p;
          found = all_judged report.serial s report.phenomena report.level judges.0;
        };
        order = order.1;
        least = order.2;
        walk = order.3;
        walks = judges.1;
        placing = placing.1;
        places = placing.2;
        circle = placing.3;
      }

-- the first fault that stands makes one too
pub of_fault : (h : History) (fault : LocalFault) → IsFirst h fault → (found : List Finding) (grade : Grade) → JudgesAtFault h fault found grade → FindsDueWalks h found
    → IsExactJudgement h (record { serial = serial.NoFault fault; snapshot = places.NoFault fault; phenomena = found; level = grade })
of_fault h fault first found grade judges walks = record {
  judgement = record { serial = first; snapshot = first; fault = refl; found = judges };
  order = tt;
  least = tt;
  walk = tt;
  walks = walks;
  placing = tt;
  places = tt;
  circle = tt;
}
