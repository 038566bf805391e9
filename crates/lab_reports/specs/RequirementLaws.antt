-- What a requirement means for a history, and that a report decides it.
use Rattle.std.specs.Prelude.{◌≡◌, ◌≢◌, true, false, List}
use Rattle.lab_history.specs.History.{History}
use Rattle.lab_judge.specs.Judgement.{IsExactJudgement}
use Rattle.lab_judge.specs.Phenomena.{MeetsPl1, MeetsPl2, MeetsPl299, MeetsPl3}
use Rattle.lab_judge.specs.Runs.{Span, IsSnapshotRun}
use Rattle.lab_judge.specs.declared.report.Grade.TheVariants.{Unsound}
use Rattle.lab_judge.specs.declared.report.Report.{Report}
use Rattle.lab_reports.specs.Requirements.{meets}
use Rattle.lab_reports.specs.declared.requirement.Requirement.{Requirement}
use Rattle.lab_reports.specs.declared.requirement.Requirement.TheVariants.{Pl1, Pl2, Pl299, Pl3, Snapshot}

-- the history has what is asked for: it shows no phenomenon that the level proscribes, or is a snapshot run
abbrev pub Has : Requirement → History → Type 0
Has Pl1 h = MeetsPl1 h
Has Pl2 h = MeetsPl2 h
Has Pl299 h = MeetsPl299 h
Has Pl3 h = MeetsPl3 h
Has Snapshot h = (spans : List Span) × IsSnapshotRun h spans

-- where a judgement meets a requirement, its history has what is asked for
abbrev pub MetIsSo : Type 0
MetIsSo = (h : History) (report : Report) (r : Requirement) → IsExactJudgement h report → meets r report ≡ true → Has r h

-- where it doesn't meet a level, and found one, the history hasn't that level
abbrev pub UnmetIsNot : Requirement → Type 0
UnmetIsNot r = (h : History) (report : Report) → IsExactJudgement h report → report.level ≢ Unsound → meets r report ≡ false → ¬ (Has r h)
