-- Which arrows are dashed: those of anti-dependencies.
use Rattle.std.specs.Prelude.{Bool, false}
use Rattle.lab_judge.specs.Places.{is_anti}
use Rattle.lab_drawing.specs.declared.drawing.Tie.{Tie}
use Rattle.lab_drawing.specs.declared.drawing.Tie.TheVariants.{Dependency, Version}

-- whether it is an anti-dependency
abbrev pub is_dashed : Tie → Bool
is_dashed (Dependency kind) = is_anti kind
is_dashed Version = false
