-- `matrix` says one thing.
use Rattle.std.proofs.Common.{◌≡◌, inl, inr, ℕ, List, sym, ap, ◌∙◌}
use Rattle.lab_session.specs.PlayFaultText.{play_fault_text}
use Rattle.lab_engine.specs.declared.event.Level.{Level}
use Rattle.lab_matrix.{specs.Columns.{columns_text}, proofs.{OneMatrix.{one_text, no_refusal, one_refusal}, OneTextAt.{one_list, none_refused_at, one_first_among}}}
use Rattle.lab_streams.specs.declared.ending.Ending.{Ending}
use Rattle.lab_case_commands.specs.Tabulating.{IsTabulated, IsUntabulated, IsMatrixAnswer, IsTabulatedAt, IsUntabulatedAt, IsColumnsAnswer}

module _ (one other : List ℕ) (first again : Ending) where
  one_table : IsTabulated one first → IsTabulated other again → one ≡ other
  one_table p q = p.text_is ∙ one_text p.matrix q.matrix p.cells q.cells ∙ sym q.text_is

  one_line : IsUntabulated one first → IsUntabulated other again → one ≡ other
  one_line u w =
      u.text_is
      ∙ ap play_fault_text (one_refusal u.case w.case u.level w.level u.fault w.fault (u.told_why, u.faulty) (w.told_why, w.faulty) u.first w.first)
      ∙ sym w.text_is

  pub one_answer : IsMatrixAnswer one first → IsMatrixAnswer other again → (one ≡ other) × (first ≡ again)
  one_answer (inl p) (inl q) = (one_table p q, p.done ∙ sym q.done)
  one_answer (inl p) (inr u) = absurd (no_refusal p.matrix u.case u.level u.fault p.cells (u.told_why, u.faulty) u.first)
  one_answer (inr u) (inl p) = absurd (no_refusal p.matrix u.case u.level u.fault p.cells (u.told_why, u.faulty) u.first)
  one_answer (inr u) (inr w) = (one_line u w, u.refused ∙ sym w.refused)

-- so at levels
module _ (levels : List Level) (one other : List ℕ) (first again : Ending) where
  one_table_at : IsTabulatedAt levels one first → IsTabulatedAt levels other again → one ≡ other
  one_table_at p q = p.text_is ∙ ap columns_text (one_list levels p.columns q.columns p.are_columns q.are_columns) ∙ sym q.text_is

  one_line_at : IsUntabulatedAt levels one first → IsUntabulatedAt levels other again → one ≡ other
  one_line_at u w = u.text_is ∙ ap play_fault_text (one_first_among u.level w.level u.case w.case u.fault w.fault levels u.first w.first) ∙ sym w.text_is

  pub one_answer_at : IsColumnsAnswer levels one first → IsColumnsAnswer levels other again → (one ≡ other) × (first ≡ again)
  one_answer_at (inl p) (inl q) = (one_table_at p q, p.done ∙ sym q.done)
  one_answer_at (inl p) (inr u) = absurd (none_refused_at u.level u.case u.fault levels p.columns p.are_columns u.first)
  one_answer_at (inr u) (inl p) = absurd (none_refused_at u.level u.case u.fault levels p.columns p.are_columns u.first)
  one_answer_at (inr u) (inr w) = (one_line_at u w, u.refused ∙ sym w.refused)
