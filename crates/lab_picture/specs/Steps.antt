-- The text of the arrows that are steps of a cycle.
--
-- Origin: SVG 1.1.
use Rattle.std.specs.Prelude.{ℕ, ◌+◌, false, List, [], ◌∷◌, ◌++◌}
use Rattle.lab_picture.specs.Arrows.{arrow_text}
use Rattle.lab_picture.specs.Classes.{arrow_class}
use Rattle.lab_drawing.specs.declared.drawing.Arrow.{Arrow}
use Rattle.lab_picture.specs.declared.layout.Frame.{Frame}

-- the arrows of steps, each with its class, where so many come before these
abbrev pub steps_text : Frame → List ℕ → ℕ → List Arrow → List ℕ
steps_text f columns before [] = []
steps_text f columns before (a ∷ more) = arrow_text f false (arrow_class before a.tie) columns a ++ steps_text f columns (before + 1) more
