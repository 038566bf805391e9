-- A history has one picture.
use Rattle.std.proofs.Common.{◌≡◌, ℕ, List, Option, sym, ap, subst, ◌∙◌}
use Rattle.lab_history.specs.History.{History}
use Rattle.lab_judge.proofs.OneJudgement.{one_judgement}
use Rattle.lab_streams.specs.declared.ending.Ending.{Ending}
use Rattle.lab_reports.specs.declared.phenomenon.Phenomenon.{Phenomenon}
use Rattle.lab_drawing.specs.{declared.drawing.Arrow.{Arrow}, Sketch.{drawing_of}}
use Rattle.lab_picture.{specs.{Forward.{AreForward, arrows_in, near_pairs, yes_columns, with_forward}, Picture.{IsPictureOf, Pictures}, Svg.{svg_of}}, proofs.LeastOfPairs.{one_list}}

-- the arrows of a yes are one list
one_forward : (h : History) (columns : List ℕ) (xs ys : List Arrow) → AreForward h columns xs → AreForward h columns ys → xs ≡ ys
one_forward h columns xs ys a b = a.arrows_are ∙ ap (arrows_in h) (one_list h (near_pairs 0 columns) a.found b.found a.least b.least) ∙ sym b.arrows_are

-- a history has one picture
one_of_history : (history : History) (asked : Option Phenomenon) (one other : List ℕ) → IsPictureOf history asked one → IsPictureOf history asked other → one ≡ other
one_of_history history asked one other p q =
    let same : p.report ≡ q.report = one_judgement history p.report q.report p.judgement q.judgement in
    let leads : AreForward history (yes_columns q.report asked) p.forward = subst (λ r. AreForward history (yes_columns r asked) p.forward) same p.leads in
    let arrows : p.forward ≡ q.forward = one_forward history (yes_columns q.report asked) p.forward q.forward leads q.leads in
    p.text_is ∙ ap (λ r. svg_of history (with_forward p.forward (drawing_of history r asked))) same
    ∙ ap (λ xs. svg_of history (with_forward xs (drawing_of history q.report asked))) arrows ∙ sym q.text_is

pub one_picture : (asked : Option Phenomenon) (history : History) (one other : List ℕ) (first again : Ending) → Pictures asked history one first → Pictures asked history other again
    → (one ≡ other) × (first ≡ again)
one_picture asked history one other first again p q = (one_of_history history asked one other p.0 q.0, p.1 ∙ sym q.1)
