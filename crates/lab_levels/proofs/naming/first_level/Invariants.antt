use Rattle.std.proofs.Common.{◌≡◌, drop}
use Rattle.lab_levels.specs.LevelName.{first_level}
use Rattle.lab_levels.proofs.naming.first_level.Given as goal

abbrev pub invariant-loop-level : goal.invariant-loop-level
invariant-loop-level l = first_level l.name (drop l.level-index l.among) ≡ first_level l.name l.among
