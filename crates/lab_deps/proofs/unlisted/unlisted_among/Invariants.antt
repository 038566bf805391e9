use Rattle.std.proofs.Common.{take}
use Rattle.lab_deps.{specs.FirstOf.{IsLeastRow}, proofs.NamedIds.{Within}}
use Rattle.lab_deps.proofs.unlisted.unlisted_among.Given as goal

-- the least row with one of the numbers so far
abbrev pub invariant-loop-number : goal.invariant-loop-number
invariant-loop-number l = IsLeastRow (Within l.history l.op (take l.number-index l.numbers)) l.found
