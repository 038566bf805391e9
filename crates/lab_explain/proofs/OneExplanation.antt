-- A history has one explanation.
use Rattle.std.proofs.Common.{◌≡◌, ℕ, List, Option, sym, ap, ◌∙◌}
use Rattle.lab_history.specs.History.{History}
use Rattle.lab_judge.proofs.OneJudgement.{one_judgement}
use Rattle.lab_streams.specs.declared.ending.Ending.{Ending}
use Rattle.lab_reports.specs.declared.phenomenon.Phenomenon.{Phenomenon}
use Rattle.lab_explain.specs.{Answer.{IsExplanationOf, Explains}, Explanation.{explanation_of}}

-- a history has one explanation
one_of_history : (history : History) (asked : Option Phenomenon) (one other : List ℕ) → IsExplanationOf history asked one → IsExplanationOf history asked other → one ≡ other
one_of_history history asked one other p q =
    p.text_is ∙ ap (λ r. explanation_of history r asked) (one_judgement history p.report q.report p.judgement q.judgement) ∙ sym q.text_is

pub one_explanation : (asked : Option Phenomenon) (history : History) (one other : List ℕ) (first again : Ending) → Explains asked history one first → Explains asked history other again
    → (one ≡ other) × (first ≡ again)
one_explanation asked history one other first again p q = (one_of_history history asked one other p.0 q.0, p.1 ∙ sym q.1)
