use Rattle.lab_engine.proofs.{Common.{ap, is_some, sym, ◌∙◌}, Describing.{some_made}}
use Rattle.lab_engine.proofs.situation.Situation.is_waiting.Goals as goal

pub returns : goal.returns
returns c = λ level past d. c.is_some.ensures ∙ sym (some_made (λ s. s.now) c.waiting.result) ∙ ap is_some (c.waiting.ensures level past d)
