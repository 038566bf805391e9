-- The isolation level of a part, the lower of two levels, their printed names, and how many of PL-1, PL-2, PL-2.99
-- and PL-3 a level meets.
--
-- Origin: names of levels: Adya, Liskov and O'Neil, "Generalized Isolation Level Definitions" (2000).
use Rattle.std.specs.Prelude.{ℕ, List, codes}
use Rattle.lab_judge.specs.ReportText.{grade_name}
use Rattle.lab_judge.specs.declared.report.Grade.{Grade}
use Rattle.lab_judge.specs.declared.report.Grade.TheVariants as grade
use Rattle.lab_chain.specs.Heavier.{heavier}
use Rattle.lab_chain.specs.declared.level.Level.{Level}
use Rattle.lab_chain.specs.declared.level.Level.TheVariants as level

-- the level of one part
abbrev pub level_of : Grade → Level
level_of grade.Pl3 = level.Pl3
level_of grade.Pl299 = level.Pl299
level_of grade.Pl2 = level.Pl2
level_of grade.Pl1 = level.Pl1
level_of grade.BelowPl1 = level.BelowPl1
level_of grade.Unsound = level.Unsound

-- how bad a level is
abbrev pub level_rank : Level → ℕ
level_rank level.Pl3 = 0
level_rank level.Pl299 = 1
level_rank level.Pl2 = 2
level_rank level.Pl1 = 3
level_rank level.NotJudged = 4
level_rank level.BelowPl1 = 5
level_rank level.Unsound = 6

-- the worse of two levels
abbrev pub worse : Level → Level → Level
worse a b = heavier level_rank a b

-- a level as it is printed
abbrev pub level_name : Level → List ℕ
level_name level.Pl3 = grade_name grade.Pl3
level_name level.Pl299 = grade_name grade.Pl299
level_name level.Pl2 = grade_name grade.Pl2
level_name level.Pl1 = grade_name grade.Pl1
level_name level.NotJudged = codes "not judged"
level_name level.BelowPl1 = grade_name grade.BelowPl1
level_name level.Unsound = grade_name grade.Unsound

-- how many of the levels PL-1, PL-2, PL-2.99 and PL-3 a run of this level meets
abbrev pub levels_met : Level → ℕ
levels_met level.Pl3 = 4
levels_met level.Pl299 = 3
levels_met level.Pl2 = 2
levels_met level.Pl1 = 1
levels_met level.NotJudged = 0
levels_met level.BelowPl1 = 0
levels_met level.Unsound = 0
