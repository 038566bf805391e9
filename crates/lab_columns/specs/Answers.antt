-- What is answered of each of 64 rows.
use Rattle.std.specs.Prelude.{ℕ, Bool, true, false, get_or}
use Rattle.lab_columns.specs.declared.answers.Answers.{Answers}
use Rattle.lab_columns.specs.declared.answers.Answers.TheVariants.{Never, Always, Each}

-- the answer for the row at an index
abbrev pub answer_at : Answers → ℕ → Bool
answer_at Never k = false
answer_at Always k = true
answer_at (Each answers) k = get_or answers k false
