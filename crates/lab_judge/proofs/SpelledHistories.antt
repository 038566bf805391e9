-- The history that a file holds, and when the verdicts on it are yes.
use Rattle.std.{proofs.Common.{◌≡◌, ℕ, List, subst}, specs.Prelude.{◌↔◌}}
use Rattle.lab_history.specs.History.{History}
use Rattle.lab_history_file.{specs.HistoryFile.{HoldsHistory}, proofs.OneFile.{one_history}}
use Rattle.lab_deps.specs.Soundness.{IsSound}
use Rattle.lab_judge.{specs.{FileJudgement.{IsFileJudgement}, Judgement.{IsExactJudgement}, Phenomena.{IsClosedWalk, NoWalk}, Verdicts.{IsYes, IsPlaced, NoCircle}, declared.report.Report.{Report}}, proofs.{ExactJudgements.{yes_where, placed_where}, OneJudgement.{one_judgement}}}

-- a judgement of a file is one of each history that the file holds
pub judges_held : (bytes : List ℕ) (report : Report) (h : History) → IsFileJudgement bytes report → HoldsHistory bytes h → IsExactJudgement h report
judges_held bytes report h judged held = subst (λ g. IsExactJudgement g report) (one_history bytes judged.history h judged.held held) judged.judgement

-- a file has one judgement at most
pub one_of_file : (bytes : List ℕ) (one other : Report) → IsFileJudgement bytes one → IsFileJudgement bytes other → one ≡ other
one_of_file bytes one other first second = one_judgement second.history one other (judges_held bytes one second.history first second.held) second.judgement

module _ (bytes : List ℕ) (report : Report) (h : History) (judged : IsFileJudgement bytes report) (held : HoldsHistory bytes h) where
  pub held_yes : IsYes report.serial ↔ (IsSound h × NoWalk (IsClosedWalk h))
  held_yes = yes_where h report (judges_held bytes report h judged held)

  pub held_placed : IsPlaced report.snapshot ↔ (IsSound h × NoCircle h)
  held_placed = placed_where h report (judges_held bytes report h judged held)
