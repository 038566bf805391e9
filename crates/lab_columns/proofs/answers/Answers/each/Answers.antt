use Rattle.std.proofs.{Common.{true, false, sym, ap, ◌∙◌}, lemmas.Simd.{get_or-replicate}}
use Rattle.lab_columns.specs.Answers.{answer_at}
use Rattle.lab_columns.proofs.answers.Answers.each.Goals as goal

pub returns-in-Never-clause-at : goal.returns-in-Never-clause-at
returns-in-Never-clause-at c = λ k within. get_or-replicate 64 k false false within ∙ sym (ap (λ a. answer_at a k) c.in-Never.is)

pub returns-in-Always-clause-at : goal.returns-in-Always-clause-at
returns-in-Always-clause-at c = λ k within. get_or-replicate 64 k true false within ∙ sym (ap (λ a. answer_at a k) c.in-Always.is)
