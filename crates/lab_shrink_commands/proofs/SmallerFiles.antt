-- The file of a smaller history.
use Rattle.std.proofs.Common.{List, ℕ, Option, Some}
use Rattle.lab_history.specs.History.{History}
use Rattle.lab_reports.specs.declared.violation.Violation.{Violation}
use Rattle.lab_shrink.specs.{Smaller.{IsSmaller}, declared.goal.Goal.{Goal}}
use Rattle.lab_shrink_commands.specs.Answer.{IsGoalOf, IsFileOf, IsSmallerFile}

-- by what a judgement of the whole shows
pub smaller_file_is : (asked : Option Violation) (whole : History) (goal : Goal) (part : History) (text : List ℕ) → IsGoalOf asked whole (Some goal) → IsSmaller whole goal part → IsFileOf part text → IsSmallerFile asked whole text
smaller_file_is asked whole goal part text shown smaller file = record { goal = goal; shown = shown; part = part; smaller = smaller; file = file }
