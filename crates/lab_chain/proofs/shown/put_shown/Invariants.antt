use Rattle.std.proofs.Common.{◌≡◌, ◌++◌, take}
use Rattle.lab_chain.specs.Chain.{shown}
use Rattle.lab_chain.proofs.shown.put_shown.Given as goal

abbrev pub invariant-loop-byte : goal.invariant-loop-byte
invariant-loop-byte l = l.out.items ≡ l.initial.out.items ++ shown (take l.byte-index l.text)
