use Rattle.std.proofs.Common.{◌≡◌, drop}
use Rattle.lab_drawing.specs.Installs.{first_wrong}
use Rattle.lab_drawing.proofs.installs.first_wrong.Given as goal

-- the installer is found among those that are left as among all
abbrev pub invariant-loop-index : goal.invariant-loop-index
invariant-loop-index l = first_wrong l.history l.row l.index (drop l.index l.installers) ≡ first_wrong l.history l.row 0 l.installers
