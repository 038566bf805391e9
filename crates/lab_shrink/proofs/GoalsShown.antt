-- What it is of a history that it shows a goal.
use Rattle.std.{proofs.Common.{◌≡◌, ◌⊎◌, inl, inr, ℕ, Bool, true, false, cond, Option, Some, None, List, refl, sym, ap, subst}, specs.Prelude.{◌↔◌}}
use Rattle.lab_table.specs.Row.{Row}
use Rattle.lab_history.specs.History.{History}
use Rattle.lab_deps.specs.{FaultOrder.{IsFirst}, Refusal.{is_uncommitted_read}, Soundness.{IsSound}, declared.{edge.Edge.{Edge}, fault.LocalFault.{LocalFault}}}
use Rattle.lab_deps.specs.declared.fault.LocalFault.TheVariants as fault
use Rattle.lab_judge.specs.Findings as found
use Rattle.lab_judge.specs.Judgement.{FindsWalk, FindsFault, JudgesAll, JudgesAtRead, Judges, IsExactJudgement, IsSerialVerdict, IsSnapshotVerdict, SameFault, RestsOnOrder}
use Rattle.lab_judge.specs.Phenomena.{IsClosedWalk, IsG0, IsG1c, IsGSingle, IsG2Item, IsG2}
use Rattle.lab_judge.specs.declared.{places.Places.{Places}, report.{Finding.{Finding, TheVariants.{Absent, Walk, At, NotJudged}}, Grade.{Grade}, Report.{Report}}, serial.Serial.{Serial}}
use Rattle.lab_judge.specs.declared.places.Places.TheVariants as places
use Rattle.lab_judge.specs.declared.serial.Serial.TheVariants as serial
use Rattle.lab_reports.specs.{Phenomena.{finding_of}, Shortfall.{is_present}, declared.{phenomenon.Phenomenon.{Phenomenon, TheVariants.{G0, G1a, G1b, G1c, GSingle, G2Item, G2}}, violation.Violation.{Violation}}}
use Rattle.lab_reports.specs.declared.violation.Violation.TheVariants as violation
use Rattle.lab_shrink.specs.{Goals.{kind_of, verdict_goal, snapshot_goal, violation_goal, goal_of, is_of_sound, IsNoOrder, IsNoTimestamps, IsFaultOf, IsShownBy, Shows, HasWalk, HasCircle, HasFault, Has}, declared.goal.{FaultKind.{FaultKind}, Goal.{Goal, TheVariants.{NoOrder, Fault, Present, NoTimestamps}}}}

-- ---- verdicts

-- a no by a cycle
no_order_in : (h : History) (s : Serial) → IsSerialVerdict h s → IsNoOrder s → IsSound h × HasWalk (IsClosedWalk h)
no_order_in h (serial.Yes order) verdict shown = absurd shown
no_order_in h (serial.NoFault f) verdict shown = absurd shown
no_order_in h (serial.NoCycle walk) verdict shown = (verdict.0, (walk, verdict.1))

pub no_order_is_so : (h : History) → Shows h NoOrder → IsSound h × HasWalk (IsClosedWalk h)
no_order_is_so h shows = no_order_in h shows.report.serial shows.judgement.judgement.serial shows.shown

-- a no by a fault
fault_in : (h : History) (kind : FaultKind) (s : Serial) → IsSerialVerdict h s → IsFaultOf kind s → (f : LocalFault) × IsFirst h f × (kind_of f ≡ kind)
fault_in h kind (serial.Yes order) verdict shown = absurd shown
fault_in h kind (serial.NoFault f) verdict shown = (f, verdict, shown)
fault_in h kind (serial.NoCycle walk) verdict shown = absurd shown

pub fault_is_so : (h : History) (kind : FaultKind) → Shows h (Fault kind) → (f : LocalFault) × IsFirst h f × (kind_of f ≡ kind)
fault_is_so h kind shows = fault_in h kind shows.report.serial shows.judgement.judgement.serial shows.shown

-- a no of the snapshot verdict by a cycle
no_timestamps_in : (h : History) (s : Places) → IsSnapshotVerdict h s → IsNoTimestamps s → IsSound h × HasCircle h
no_timestamps_in h (places.Yes spans) verdict shown = absurd shown
no_timestamps_in h (places.NoFault f) verdict shown = absurd shown
no_timestamps_in h (places.NoCycle points) verdict shown = (verdict.0, (points, verdict.1))

pub no_timestamps_is_so : (h : History) → Shows h NoTimestamps → IsSound h × HasCircle h
no_timestamps_is_so h shows = no_timestamps_in h shows.report.snapshot shows.judgement.judgement.snapshot shows.shown

-- ---- phenomena

-- what is found of a kind of walk is exact, or it wasn't looked for
abbrev WalkOrNot : (List Edge → Type 0) → Finding → Type 0
WalkOrNot is_one f = FindsWalk is_one f ⊎ (f ≡ NotJudged)

-- and of a fault
abbrev FaultOrNot : History → (ℕ → ℕ → Row → LocalFault) → Finding → Type 0
FaultOrNot h made f = FindsFault h made f ⊎ (f ≡ NotJudged)

walk_there : (is_one : List Edge → Type 0) (f : Finding) → WalkOrNot is_one f → is_present f ≡ true → HasWalk is_one
walk_there is_one Absent exact there = absurd cc
walk_there is_one (Walk walk) (inl exact) there = (walk, exact)
walk_there is_one (Walk walk) (inr unjudged) there = absurd cc
walk_there is_one (At n k row) (inl exact) there = absurd exact
walk_there is_one (At n k row) (inr unjudged) there = absurd cc
walk_there is_one NotJudged exact there = absurd cc

fault_there : (h : History) (made : ℕ → ℕ → Row → LocalFault) (f : Finding) → FaultOrNot h made f → is_present f ≡ true → HasFault h made
fault_there h made Absent exact there = absurd cc
fault_there h made (Walk walk) (inl exact) there = absurd exact
fault_there h made (Walk walk) (inr unjudged) there = absurd cc
fault_there h made (At n k row) (inl exact) there = (n, k, row, exact.0)
fault_there h made (At n k row) (inr unjudged) there = absurd cc
fault_there h made NotJudged exact there = absurd cc

-- what is found of each phenomenon is exact, or it wasn't looked for
record AreExact (h : History) (p : List Finding) : Type 0 where
  g0 : WalkOrNot (IsG0 h) (found.g0 p)
  g1a : FaultOrNot h fault.AbortedRead (found.g1a p)
  g1b : FaultOrNot h fault.IntermediateRead (found.g1b p)
  g1c : WalkOrNot (IsG1c h) (found.g1c p)
  g_single : WalkOrNot (IsGSingle h) (found.g_single p)
  g2_item : WalkOrNot (IsG2Item h) (found.g2_item p)
  g2 : WalkOrNot (IsG2 h) (found.g2 p)

of_all : (h : History) (p : List Finding) (grade : Grade) → JudgesAll h p grade → AreExact h p
of_all h p grade j = record { g0 = inl j.0; g1a = inl j.1; g1b = inl j.2; g1c = inl j.3; g_single = inl j.4; g2_item = inl j.5; g2 = inl j.6 }

at_read : (is_read : Bool) (h : History) (p : List Finding) (grade : Grade) → JudgesAtRead is_read h p grade → AreExact h p
at_read true h p grade j = record { g0 = inl j.0; g1a = inl j.1; g1b = inl j.2; g1c = inr j.3; g_single = inr j.4; g2_item = inr j.5; g2 = inr j.6 }
at_read false h p grade j = record { g0 = inr j.0; g1a = inr j.1; g1b = inr j.2; g1c = inr j.3; g_single = inr j.4; g2_item = inr j.5; g2 = inr j.6 }

exact_in : (h : History) (s : Serial) (p : List Finding) (grade : Grade) → Judges h s p grade → AreExact h p
exact_in h (serial.Yes order) p grade j = of_all h p grade j
exact_in h (serial.NoCycle walk) p grade j = of_all h p grade j
exact_in h (serial.NoFault f) p grade j = at_read (is_uncommitted_read f) h p grade j

-- a phenomenon that is found is there
there_in : (h : History) (report : Report) (p : Phenomenon) → AreExact h report.phenomena → is_present (finding_of p report) ≡ true → Has p h
there_in h report G0 exact there = walk_there (IsG0 h) (found.g0 report.phenomena) exact.g0 there
there_in h report G1a exact there = fault_there h fault.AbortedRead (found.g1a report.phenomena) exact.g1a there
there_in h report G1b exact there = fault_there h fault.IntermediateRead (found.g1b report.phenomena) exact.g1b there
there_in h report G1c exact there = walk_there (IsG1c h) (found.g1c report.phenomena) exact.g1c there
there_in h report GSingle exact there = walk_there (IsGSingle h) (found.g_single report.phenomena) exact.g_single there
there_in h report G2Item exact there = walk_there (IsG2Item h) (found.g2_item report.phenomena) exact.g2_item there
there_in h report G2 exact there = walk_there (IsG2 h) (found.g2 report.phenomena) exact.g2 there

pub present_is_so : (h : History) (p : Phenomenon) (in_sound : Bool) → Shows h (Present p in_sound) → Has p h
present_is_so h p in_sound shows =
    there_in h shows.report p (exact_in h shows.report.serial shows.report.phenomena shows.report.level shows.judgement.judgement.found) shows.shown.0

-- ---- goals of judgements

-- a goal is shown where a test of the judgement says so
pub shown_where : (h : History) (goal : Goal) (report : Report) (test : Bool) → IsExactJudgement h report → (test ≡ true ↔ IsShownBy goal report) → test ≡ true → Shows h goal
shown_where h goal report test exact tests says = record { report = report; judgement = exact; shown = tests.0 says }

-- the goal of a verdict is shown by it
verdict_shows : (report : Report) (s : Serial) (aim : Goal) → report.serial ≡ s → verdict_goal s ≡ Some aim → IsShownBy aim report
verdict_shows report (serial.Yes order) aim is goal = absurd cc
verdict_shows report (serial.NoFault f) aim is goal =
    let same : Fault (kind_of f) ≡ aim = cc in
    subst (λ a. IsShownBy a report) same (subst (IsFaultOf (kind_of f)) (sym is) refl)
verdict_shows report (serial.NoCycle walk) aim is goal =
    let same : NoOrder ≡ aim = cc in
    subst (λ a. IsShownBy a report) same (subst IsNoOrder (sym is) tt)

-- the goal of a phenomenon that is there is shown
phenomenon_shows : (report : Report) (p : Phenomenon) (aim : Goal) (there : Bool) → is_present (finding_of p report) ≡ there → cond there (Some (Present p (is_of_sound report.serial))) None ≡ Some aim
    → IsShownBy aim report
phenomenon_shows report p aim true there goal =
    let same : Present p (is_of_sound report.serial) ≡ aim = cc in
    subst (λ a. IsShownBy a report) same (there, (λ sound. sound))
phenomenon_shows report p aim false there goal = absurd cc

-- the fault that the snapshot verdict names is the serial one's
same_kind : (f : LocalFault) (s : Serial) → SameFault s (places.NoFault f) → IsFaultOf (kind_of f) s
same_kind f (serial.Yes order) same = absurd same
same_kind f (serial.NoFault g) same = ap kind_of same
same_kind f (serial.NoCycle walk) same = absurd same

-- the goal of a snapshot verdict is shown by it
snapshot_shows : (report : Report) (s : Places) (aim : Goal) → report.snapshot ≡ s → SameFault report.serial s → snapshot_goal s ≡ Some aim → IsShownBy aim report
snapshot_shows report (places.Yes spans) aim is same goal = absurd cc
snapshot_shows report (places.NoFault f) aim is same goal =
    let named : Fault (kind_of f) ≡ aim = cc in
    subst (λ a. IsShownBy a report) named (same_kind f report.serial same)
snapshot_shows report (places.NoCycle points) aim is same goal =
    let named : NoTimestamps ≡ aim = cc in
    subst (λ a. IsShownBy a report) named (subst IsNoTimestamps (sym is) tt)

violation_shows : (report : Report) (v : Violation) (aim : Goal) → SameFault report.serial report.snapshot → violation_goal report v ≡ Some aim → IsShownBy aim report
violation_shows report (violation.Phenomenon p) aim same goal = phenomenon_shows report p aim (is_present (finding_of p report)) refl goal
violation_shows report violation.Snapshot aim same goal = snapshot_shows report report.snapshot aim refl same goal

goal_shows : (report : Report) (asked : Option Violation) (aim : Goal) → SameFault report.serial report.snapshot → goal_of report asked ≡ Some aim → IsShownBy aim report
goal_shows report None aim same goal = verdict_shows report report.serial aim refl goal
goal_shows report (Some v) aim same goal = violation_shows report v aim same goal

pub judged_goal : (h : History) (report : Report) (asked : Option Violation) (aim : Goal) → IsExactJudgement h report → goal_of report asked ≡ Some aim → Shows h aim
judged_goal h report asked aim exact goal = record { report = report; judgement = exact; shown = goal_shows report asked aim exact.judgement.fault goal }

-- ---- soundness

-- a verdict of a sound history says so, and is one
sound_verdict : (h : History) (s : Serial) → IsSerialVerdict h s → IsSound h → is_of_sound s ≡ true
sound_verdict h (serial.Yes order) verdict sound = refl
sound_verdict h (serial.NoFault f) verdict sound = absurd (sound f verdict.0)
sound_verdict h (serial.NoCycle walk) verdict sound = refl

verdict_sound : (h : History) (s : Serial) → IsSerialVerdict h s → RestsOnOrder h s → is_of_sound s ≡ true → IsSound h
verdict_sound h (serial.Yes order) verdict rests says = rests.0
verdict_sound h (serial.NoFault f) verdict rests says = absurd cc
verdict_sound h (serial.NoCycle walk) verdict rests says = verdict.0

-- goals of a sound history's report
verdict_stays : (s : Serial) (aim : Goal) (part : History) → is_of_sound s ≡ true → verdict_goal s ≡ Some aim → Shows part aim → IsSound part
verdict_stays (serial.Yes order) aim part says goal shows = absurd cc
verdict_stays (serial.NoFault f) aim part says goal shows = absurd cc
verdict_stays (serial.NoCycle walk) aim part says goal shows =
    let same : aim ≡ NoOrder = cc in
    (no_order_is_so part (subst (Shows part) same shows)).0

phenomenon_stays : (p : Phenomenon) (in_sound there : Bool) (aim : Goal) (part : History) → in_sound ≡ true → cond there (Some (Present p in_sound)) None ≡ Some aim → Shows part aim → IsSound part
phenomenon_stays p in_sound true aim part says goal shows =
    let same : aim ≡ Present p in_sound = cc in
    let there : Shows part (Present p in_sound) = subst (Shows part) same shows in
    verdict_sound part there.report.serial there.judgement.judgement.serial there.judgement.order (there.shown.1 says)
phenomenon_stays p in_sound false aim part says goal shows = absurd cc

-- a snapshot verdict of a sound history names no fault
snapshot_stays : (s : Places) (aim : Goal) (h part : History) → IsSnapshotVerdict h s → IsSound h → snapshot_goal s ≡ Some aim → Shows part aim → IsSound part
snapshot_stays (places.Yes spans) aim h part verdict sound goal shows = absurd cc
snapshot_stays (places.NoFault f) aim h part verdict sound goal shows = absurd (sound f verdict.0)
snapshot_stays (places.NoCycle points) aim h part verdict sound goal shows =
    let same : aim ≡ NoTimestamps = cc in
    (no_timestamps_is_so part (subst (Shows part) same shows)).0

module _ (h part : History) (report : Report) (aim : Goal) (exact : IsExactJudgement h report) (sound : IsSound h) (shows : Shows part aim) where
  says : is_of_sound report.serial ≡ true
  says = sound_verdict h report.serial exact.judgement.serial sound

  violation_stays : (v : Violation) → violation_goal report v ≡ Some aim → IsSound part
  violation_stays (violation.Phenomenon p) goal = phenomenon_stays p (is_of_sound report.serial) (is_present (finding_of p report)) aim part says goal shows
  violation_stays violation.Snapshot goal = snapshot_stays report.snapshot aim h part exact.judgement.snapshot sound goal shows

  goal_stays : (asked : Option Violation) → goal_of report asked ≡ Some aim → IsSound part
  goal_stays None goal = verdict_stays report.serial aim part says goal shows
  goal_stays (Some v) goal = violation_stays v goal

pub stays_sound : (h part : History) (report : Report) (asked : Option Violation) (aim : Goal) → IsExactJudgement h report → goal_of report asked ≡ Some aim → IsSound h → Shows part aim → IsSound part
stays_sound h part report asked aim exact goal sound shows = goal_stays h part report aim exact sound shows asked goal
