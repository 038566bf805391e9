-- Which kinds of arrows a drawing has, and so which keys are shown above its columns.
use Rattle.std.specs.Prelude.{ℕ, Bool, true, false, not, ◌||◌, cond, List}
use Rattle.std.specs.List.{list_any}
use Rattle.lab_judge.specs.Places.{is_anti}
use Rattle.lab_drawing.specs.Ties.{is_dashed}
use Rattle.lab_drawing.specs.Sketch.{Sketch}
use Rattle.lab_drawing.specs.declared.drawing.Arrow.{Arrow}
use Rattle.lab_drawing.specs.declared.drawing.Tie.{Tie}
use Rattle.lab_drawing.specs.declared.drawing.Tie.TheVariants.{Dependency, Version}
use Rattle.lab_picture.specs.declared.keys.Key.{Key}
use Rattle.lab_picture.specs.declared.keys.Key.TheVariants.{Solid, Dashed, Sees}

-- whether it is a dependency and no anti-dependency
abbrev pub is_solid : Tie → Bool
is_solid (Dependency kind) = not (is_anti kind)
is_solid Version = false

-- whether it is a version that is seen
abbrev pub is_sees : Tie → Bool
is_sees (Dependency kind) = false
is_sees Version = true

-- whether a key says what this is
abbrev pub says : Key → Tie → Bool
says Solid tie = is_solid tie
says Dashed tie = is_dashed tie
says Sees tie = is_sees tie

-- whether there is an arrow that a key tells of
abbrev pub some_said : Key → List Arrow → Bool
some_said key arrows = list_any (λ a. says key a.tie) arrows

-- whether a drawing has such an arrow
abbrev pub has_key : Key → Sketch → Bool
has_key key d = some_said key d.arrows || some_said key d.forward

-- how many lines a key has
abbrev pub key_lines : Key → Sketch → ℕ
key_lines key d = cond (has_key key d) 1 0
