use Rattle.std.proofs.Common.{◌≡◌, ◌<◌, ℕ, get_or}
use Rattle.lab_order.specs.Arrows.{before}
use Rattle.lab_deps.specs.KindSets.{among}
use Rattle.lab_judge.specs.Joining.{Grows}
use Rattle.lab_judge.proofs.joining.add_arrows_to.Given as goal

-- the arrows from the transactions so far were added
abbrev pub invariant-loop-from : goal.invariant-loop-from
invariant-loop-from l = Grows (among l.kinds) l.joining l.net (λ p q. ((k : ℕ) × (k < l.from-index) × (get_or (before l.all l.to) k 0 ≡ p)) × (q ≡ l.to)) l.initial.graph l.graph
