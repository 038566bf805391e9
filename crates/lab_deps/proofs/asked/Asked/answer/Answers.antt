use Rattle.lab_deps.proofs.ReadyAnswers.{row_answer, value_answer}
use Rattle.lab_deps.proofs.asked.Asked.answer.Goals as goal

pub returns-then-is_empty : goal.returns-then-is_empty
returns-then-is_empty c = row_answer _ _ _ _ _ _ c.self.invariant c.self.view_is c.args.row c.args.value c.requires _ c.deref.ensures.value _ c.answer_of_row.result c.answer_of_row.ensures

pub returns-else-is_empty : goal.returns-else-is_empty
returns-else-is_empty c =
    value_answer _ _ _ _ _ _ c.self.invariant c.self.view_is c.args.row c.args.value c.requires _ c.deref-else-is_empty.ensures.value c.number_at.result c.answer_of_value.result c.answer_of_value.ensures
