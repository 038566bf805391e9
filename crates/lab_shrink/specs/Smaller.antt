-- The result of making a history smaller: part of it, which still shows the goal.
use Rattle.lab_history.specs.History.{History}
use Rattle.lab_cut.specs.PartOf.{IsPartOf}
use Rattle.lab_shrink.specs.Goals.{Shows}
use Rattle.lab_shrink.specs.declared.goal.Goal.{Goal}

-- a part of the whole that shows the goal
pub record IsSmaller (whole : History) (goal : Goal) (part : History) : Type 0 where
  pub part_of : IsPartOf part whole
  pub shows : Shows part goal
