use Rattle.std.proofs.Common.{◌≡◌, false, drop}
use Rattle.lab_drawing.specs.Forks.{follows}
use Rattle.lab_drawing.proofs.forks.follows.Given as goal

-- what is left of the numbers says what they all say
abbrev pub invariant-loop-number : goal.invariant-loop-number
invariant-loop-number l = follows l.first l.next l.is_behind (drop l.number-index l.numbers) ≡ follows l.first l.next false l.numbers
