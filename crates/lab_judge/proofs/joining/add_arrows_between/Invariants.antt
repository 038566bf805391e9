use Rattle.std.proofs.Common.{◌≡◌, ◌≤◌, ◌<◌}
use Rattle.lab_deps.specs.KindSets.{among}
use Rattle.lab_judge.specs.{Joining.{Grows}, declared.joining.Joining.TheVariants.{Transactions}}
use Rattle.lab_judge.proofs.joining.add_arrows_between.Given as goal

-- the arrows to the transactions so far were added
abbrev pub invariant-loop-to : goal.invariant-loop-to
invariant-loop-to l = Grows (among l.kinds) Transactions l.net (λ p q. (p ≡ l.from) × (l.first ≤ q) × (q < l.to)) l.initial.graph l.graph
