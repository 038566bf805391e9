-- The style classes of steps: they mark the arrow and the boxes of each step of a cycle.
--
-- Origin: HTML 4, SVG 1.1.
use Rattle.std.specs.Prelude.{ℕ, ◌+◌, ◌==◌, nat_lt, min, Bool, true, false, ◌&&◌, cond, List, [], ◌∷◌, ◌++◌, flat_map, length, take, codes}
use Rattle.std.specs.Fmt.{decimal}
use Rattle.lab_drawing.specs.declared.drawing.Arrow.{Arrow}
use Rattle.lab_drawing.specs.declared.drawing.Tie.{Tie}
use Rattle.lab_drawing.specs.declared.drawing.Tie.TheVariants.{Dependency, Version}
use Rattle.lab_picture.specs.declared.layout.Column.{Column}
use Rattle.lab_picture.specs.Named.{touches}

-- a step's class behind another
abbrev pub next_class : ℕ → List ℕ
next_class step = codes " p-" ++ decimal step

-- the attribute with the classes of some steps; nothing of none
abbrev pub class_text : List ℕ → List ℕ
class_text [] = []
class_text (step ∷ steps) = codes " class=\"p-" ++ decimal step ++ flat_map next_class steps ++ codes "\""

-- the steps of an arrow that so many come before: a dependency's number, from 1 to 20; 0 of a version that is seen
abbrev pub arrow_steps : ℕ → Tie → List ℕ
arrow_steps before (Dependency kind) = cond (nat_lt before 20) ((before + 1) ∷ []) []
arrow_steps before Version = 0 ∷ []

-- whether it is a dependency
abbrev pub is_dependency : Tie → Bool
is_dependency (Dependency kind) = true
is_dependency Version = false

-- the arrows whose steps have classes: the first twenty
abbrev pub first_steps : List Arrow → List Arrow
first_steps arrows = take (min (length arrows) 20) arrows

-- whether an arrow is that of a dependency and leads from an operation, or to it
abbrev pub is_step_at : ℕ → ℕ → Arrow → Bool
is_step_at n k a = is_dependency a.tie && touches n k a

-- the steps whose arrows lead from an operation, or to it, where so many come before these
abbrev pub steps_from : ℕ → ℕ → ℕ → List Arrow → List ℕ
steps_from n k before [] = []
steps_from n k before (a ∷ more) = cond (is_step_at n k a) ((before + 1) ∷ []) [] ++ steps_from n k (before + 1) more

-- the steps of a column's box: 0 of the marked one, else those whose arrows lead from it or to it
abbrev pub box_steps : List Arrow → Column → ℕ → List ℕ
box_steps arrows column k = cond (k == column.marked) (0 ∷ []) (steps_from column.txn k 0 (first_steps arrows))

-- the class of an arrow, and of a box
abbrev pub arrow_class : ℕ → Tie → List ℕ
arrow_class before tie = class_text (arrow_steps before tie)

abbrev pub box_class : List Arrow → Column → ℕ → List ℕ
box_class arrows column k = class_text (box_steps arrows column k)
