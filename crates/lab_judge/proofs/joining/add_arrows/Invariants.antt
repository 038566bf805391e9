use Rattle.std.proofs.Common.{◌<◌}
use Rattle.lab_deps.specs.KindSets.{among}
use Rattle.lab_judge.specs.{Joining.{Grows}, declared.joining.Joining.TheVariants.{Transactions}}
use Rattle.lab_judge.proofs.joining.add_arrows.Given as goal

-- the arrows from the transactions so far were added
abbrev pub invariant-loop-from : goal.invariant-loop-from
invariant-loop-from l = Grows (among l.kinds) Transactions l.net (λ p q. p < l.from) l.initial.graph l.graph
