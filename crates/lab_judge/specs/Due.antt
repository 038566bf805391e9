-- The verdict or finding of each kind that a sound history must get.
use Rattle.std.specs.Prelude.{List, map}
use Rattle.lab_history.specs.History.{History}
use Rattle.lab_deps.specs.KindSets.{is_any}
use Rattle.lab_deps.specs.declared.edge.Edge.{Edge}
use Rattle.lab_judge.specs.Runs.{HoldsEachOnce}
use Rattle.lab_judge.specs.Places.{IsForwardOrder}
use Rattle.lab_judge.specs.Phenomena.{NoWalk}
use Rattle.lab_judge.specs.BackPoints.{HasBackCircle}
use Rattle.lab_judge.specs.LeastPlaces.{IsLeastPlacing}
use Rattle.lab_judge.specs.LeastWalks.{IsBackWalk, FindsDueWalks}
use Rattle.lab_judge.specs.Verdicts.{IsLeastOrder}
use Rattle.lab_judge.specs.Judgement.{JudgesAll}
use Rattle.lab_judge.specs.declared.report.Finding.{Finding}
use Rattle.lab_judge.specs.declared.report.Finding.TheVariants.{Absent, Walk, At, NotJudged}
use Rattle.lab_judge.specs.declared.report.Grade.{Grade}
use Rattle.lab_judge.specs.declared.serial.Serial.{Serial}
use Rattle.lab_judge.specs.declared.serial.Serial.TheVariants as serial
use Rattle.lab_judge.specs.declared.places.Places.{Places}
use Rattle.lab_judge.specs.declared.places.Places.TheVariants as places

-- the least order along which every edge points forward, or the due cycle
abbrev pub IsDueSerial : History → Serial → Type 0
IsDueSerial h (serial.Yes order) = HoldsEachOnce h order × IsForwardOrder h order × IsLeastOrder h (serial.Yes order)
IsDueSerial h (serial.NoFault fault) = ⊥
IsDueSerial h (serial.NoCycle walk) = IsBackWalk h is_any walk

-- the places of the least order of starts and commits, or the due cycle
abbrev pub IsDuePlaces : History → Places → Type 0
IsDuePlaces h (places.Yes spans) = HoldsEachOnce h (map (λ s. s.txn) spans) × IsLeastPlacing h (places.Yes spans)
IsDuePlaces h (places.NoFault fault) = ⊥
IsDuePlaces h (places.NoCycle points) = HasBackCircle h (places.NoCycle points)

-- there is no such walk, or the due one is found
abbrev pub FindsOne : (List Edge → Type 0) → (List Edge → Type 0) → Finding → Type 0
FindsOne is_one is_due Absent = NoWalk is_one
FindsOne is_one is_due (Walk walk) = is_due walk
FindsOne is_one is_due (At n k row) = ⊥
FindsOne is_one is_due NotJudged = ⊥

-- all findings of a sound history
abbrev pub JudgesDue : History → List Finding → Grade → Type 0
JudgesDue h p grade = JudgesAll h p grade × FindsDueWalks h p
