-- Texts that are appended one behind the other.
use Rattle.lab_printing.proofs.Common.{◌≡◌, ℕ, List, ◌++◌, Result, sym, ap, ◌∙◌, append_assoc, OnOk, IfOk-equal}

-- a call that appends the back of a text behind its front appends the text
pub rest_appended : {X E : Type 0} (r : Result X E) (old front back middle new whole : List ℕ) → middle ≡ old ++ front → OnOk r (new ≡ middle ++ back) → whole ≡ front ++ back
    → OnOk r (new ≡ old ++ whole)
rest_appended r old front back middle new whole first second is =
    IfOk-equal r new (middle ++ back) (old ++ whole) second (ap (λ text. text ++ back) first ∙ append_assoc old front back ∙ ap (λ text. old ++ text) (sym is))
