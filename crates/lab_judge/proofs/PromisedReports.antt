-- An exact judgement of the recording of a legal log says what its level promises.
use Rattle.std.proofs.Common.{ℕ, Bool, true, false, List}
use Rattle.lab_table.specs.{Table.{Table}, Row.{Row}}
use Rattle.lab_history.specs.History.{History}
use Rattle.lab_engine.specs.{declared.event.Level.{Level}, RuleTable.{rules_of, keeps_reads, keeps_snapshots}, Recording.{IsLegalRecording}, RecordedLog.{RecordedLog, IsSoundRecord}, Log.{Past, past_of}}
use Rattle.lab_deps.specs.{declared.{edge.Edge.{Edge}, fault.LocalFault.{LocalFault, TheVariants.{AbortedRead, IntermediateRead}}}, Soundness.{IsSound}}
use Rattle.lab_judge.specs.{Phenomena.{NoWalk, IsG0, NoG1}, Judgement.{FindsWalk, FindsFault, JudgesAll, Judges, IsSerialVerdict, IsExactJudgement}, Promises.{KeepsBy, IsAbsent, PromisedBy, IsPromised}}
use Rattle.lab_judge.specs.declared.{report.{Finding.{Finding, TheVariants.{Absent, Walk, At}}, Report.{Report}, Grade.{Grade}}, serial.Serial.{Serial}}
use Rattle.lab_judge.specs.Findings as found
use Rattle.lab_judge.specs.declared.serial.Serial.TheVariants as serial
use Rattle.lab_judge.proofs.{SoundRecordings.{is_sound}, ExactJudgements.{yes_exactly, placed_exactly}, KeptPromises.{keeps_promise}}

absent_walk : (is_one : List Edge → Type 0) → NoWalk is_one → (found : Finding) → FindsWalk is_one found → IsAbsent found
absent_walk is_one none Absent finds = tt
absent_walk is_one none (Walk walk) finds = none walk finds
absent_walk is_one none found finds = finds

absent_fault : (h : History) → IsSound h → (fault : ℕ → ℕ → Row → LocalFault) (found : Finding) → FindsFault h fault found → IsAbsent found
absent_fault h sound fault Absent finds = tt
absent_fault h sound fault (At n k row) finds = sound (fault n k row) finds.0
absent_fault h sound fault found finds = finds

absent_all : (h : History) → IsSound h → NoWalk (IsG0 h) → NoG1 h → (p : List Finding) (grade : Grade) → JudgesAll h p grade
    → IsAbsent (found.g0 p) × IsAbsent (found.g1a p) × IsAbsent (found.g1b p) × IsAbsent (found.g1c p)
absent_all h sound none none_read p grade judges = (
  absent_walk _ none (found.g0 p) judges.0,
  absent_fault h sound AbortedRead (found.g1a p) judges.1,
  absent_fault h sound IntermediateRead (found.g1b p) judges.2,
  absent_walk _ none_read.2 (found.g1c p) judges.3,
)

-- what is found beside any verdict on a sound history is found in a sound history
judges_all : (h : History) → IsSound h → (verdict : Serial) → IsSerialVerdict h verdict → (p : List Finding) (grade : Grade) → Judges h verdict p grade → JudgesAll h p grade
judges_all h sound (serial.NoFault fault) is_true p grade judges = absurd (sound fault is_true.0)
judges_all h sound verdict is_true p grade judges = judges

-- an exact judgement of a sound history says what the history keeps
says : (h : History) (report : Report) → IsSound h → IsExactJudgement h report → (reads snapshots : Bool) → KeepsBy reads snapshots h → PromisedBy reads snapshots report
says h report sound exact true snapshots none = (yes_exactly h report sound exact).1 none
says h report sound exact false true none = (placed_exactly h report sound exact).1 none
says h report sound exact false false (none_written, none_read) =
    absent_all h sound none_written none_read report.phenomena report.level (judges_all h sound report.serial exact.judgement.serial report.phenomena report.level exact.judgement.found)

-- so of a recording it says what the level promises
pub promised : (level : Level) (setup : Table) (past : Past) (h : History) (report : Report) → IsLegalRecording level setup past h → IsExactJudgement h report → IsPromised level report
promised level setup past h report recorded exact =
    says h report (is_sound recorded) exact (keeps_reads (rules_of level)) (keeps_snapshots (rules_of level)) (keeps_promise level setup past h recorded)

-- so with a recording as contracts see it
pub recording_promised : (r : RecordedLog) (report : Report) → IsSoundRecord r → IsExactJudgement r.history report → IsPromised r.level report
recording_promised r report sound exact = promised r.level r.setup (past_of r.log) r.history report sound exact
