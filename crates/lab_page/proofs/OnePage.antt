-- A history has one page.
use Rattle.std.proofs.Common.{◌≡◌, ℕ, List, Option, sym, ap, subst, ◌∙◌, refl}
use Rattle.lab_history.specs.History.{History}
use Rattle.lab_judge.{proofs.OneJudgement.{one_judgement}, specs.declared.report.Report.{Report}}
use Rattle.lab_picture.{specs.{Drawn.{IsPictureWith}, Picture.{IsPictureOf, Pictures}}, proofs.OnePicture.{one_picture}}
use Rattle.lab_reports.specs.declared.phenomenon.Phenomenon.{Phenomenon}
use Rattle.lab_streams.specs.declared.ending.Ending.{Ending, TheVariants.{Done}}
use Rattle.lab_page.specs.{Answer.{IsPageOf, Pages}, Whole.{page_text}}

-- the picture of a page's report is that of its history
of_history : (history : History) (asked : Option Phenomenon) (title text : List ℕ) → (p : IsPageOf history asked title text) → IsPictureOf history asked p.picture
of_history history asked title text p =
    record { report = p.report; judgement = p.judgement; forward = p.drawn.forward; leads = p.drawn.leads; text_is = p.drawn.text_is }

one_of_history : (history : History) (asked : Option Phenomenon) (title one other : List ℕ) → IsPageOf history asked title one → IsPageOf history asked title other → one ≡ other
one_of_history history asked title one other p q =
    let pictures : p.picture ≡ q.picture =
    (one_picture asked history p.picture q.picture Done Done (of_history history asked title one p, refl) (of_history history asked title other q, refl)).0 in
    p.text_is ∙ ap (λ r. page_text history r asked title p.picture) (one_judgement history p.report q.report p.judgement q.judgement)
    ∙ ap (page_text history q.report asked title) pictures ∙ sym q.text_is

pub one_page : (asked : Option Phenomenon) (title : List ℕ) (history : History) (one other : List ℕ) (first again : Ending) → Pages asked title history one first → Pages asked title history other again
    → (one ≡ other) × (first ≡ again)
one_page asked title history one other first again p q = (one_of_history history asked title one other p.0 q.0, p.1 ∙ sym q.1)
