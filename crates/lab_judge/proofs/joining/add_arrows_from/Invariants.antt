use Rattle.std.proofs.Common.{◌≡◌, ◌<◌, ◌*◌, length}
use Rattle.lab_deps.specs.KindSets.{among}
use Rattle.lab_judge.specs.{Joining.{Grows}, declared.joining.Joining.TheVariants.{Transactions}}
use Rattle.lab_judge.proofs.joining.add_arrows_from.Given as goal

-- the arrows to the transactions so far, by 64 of them, were added
abbrev pub invariant-loop-block : goal.invariant-loop-block
invariant-loop-block l = Grows (among l.kinds) Transactions l.net (λ p q. (p ≡ l.from) × (q < 64 * l.block) × (q < length l.net.numbers)) l.initial.graph l.graph
