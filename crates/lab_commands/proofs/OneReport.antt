-- Of one input `judge` says one thing.
use Rattle.std.proofs.Common.{◌≡◌, ℕ, None, List, sym, ap, ◌∙◌}
use Rattle.lab_history.specs.History.{History}
use Rattle.lab_judge.{specs.declared.report.Report.{Report}, proofs.OneJudgement.{one_judgement}}
use Rattle.lab_streams.specs.{Reports.{said_of, ending_due}, declared.{ending.Ending.{Ending}, reporting.Wanted.{Wanted}}}
use Rattle.lab_commands.specs.Judging.{IsReportOf}

pub one_report : (wanted : Wanted) (h : History) (one other : List ℕ) (first again : Ending) → IsReportOf wanted h one first → IsReportOf wanted h other again → (one ≡ other) × (first ≡ again)
one_report wanted h one other first again p q =
    let same : p.report ≡ q.report = one_judgement h p.report q.report p.judgement q.judgement in
    (p.text_is ∙ ap (said_of wanted.format None) same ∙ sym q.text_is, p.ends ∙ ap (ending_due wanted.requirement) same ∙ sym q.ends)
