-- Scripts whose numbers are all in range.
use Rattle.std.specs.Prelude.{ℕ, ◌≤◌}
use Rattle.std.specs.FinMap as finite
use Rattle.lab_script.specs.declared.script.Line.{Line}
use Rattle.lab_script.specs.declared.script.Script.{Script}
use Rattle.lab_printing.specs.Each.{Each}
use Rattle.lab_printing.specs.Ranges.{CommandInRange, EntryInRange}

-- from 1 to 9
abbrev pub SessionInRange : ℕ → Type 0
SessionInRange n = (1 ≤ n) × (n ≤ 9)

-- each number of a line
abbrev pub LineInRange : Line → Type 0
LineInRange line = SessionInRange line.session × CommandInRange line.command

-- each number of a script
pub record ScriptInRange (script : Script) : Type 0 where
  pub setup : Each EntryInRange (finite.entries script.setup)
  pub lines : Each LineInRange script.lines
