use Rattle.lab_engine.proofs.{Common.{ap, IfOk-weaker, inl, is_some, sym, true≢false, ◌∙◌}, Answering.{at_ease}}
use Rattle.lab_engine.proofs.decision.step_outcome.Goals as goal

pub returns-then-is_waiting-clause-permitted : goal.returns-then-is_waiting-clause-permitted
returns-then-is_waiting-clause-permitted g c past d h = sym (c.is_waiting.ensures _ past d) ∙ c.if-is_waiting.true

pub returns-clause-permitted : goal.returns-clause-permitted
returns-clause-permitted g c past d h =
    let none = at_ease past c.args.session c.is_waiting.result (c.is_waiting.ensures _ past d) c.if-is_waiting.false in
    IfOk-weaker c.answer_to.result _ _ (λ outcome answers. answers.0) (c.answer_to.ensures.answer past d (inl none) h)

pub returns-clause-least : goal.returns-clause-least
returns-clause-least g c past d h =
    let none = at_ease past c.args.session c.is_waiting.result (c.is_waiting.ensures _ past d) c.if-is_waiting.false in
    IfOk-weaker c.answer_to.result _ _ (λ outcome answers. answers.2) (c.answer_to.ensures.answer past d (inl none) h)

pub returns-clause-busy : goal.returns-clause-busy
returns-clause-busy g c past d h =
    let none = at_ease past c.args.session c.is_waiting.result (c.is_waiting.ensures _ past d) c.if-is_waiting.false in
    IfOk-weaker c.answer_to.result _ _ (λ outcome answers some. absurd (true≢false (sym some ∙ ap is_some none))) (c.answer_to.ensures.answer past d (inl none) h)
