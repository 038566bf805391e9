use Rattle.std.{proofs.Common.{◌==◌, ◌&&◌}, specs.Prelude.{nat_lt}}
use Rattle.lab_drawing.specs.Readers.{Grows}
use Rattle.lab_drawing.proofs.readers.add_arrows_to.Given as goal

-- the arrows from the nodes so far were added
abbrev pub invariant-loop-from : goal.invariant-loop-from
invariant-loop-from l = Grows l.ties l.nodes (λ a b. nat_lt a l.from && l.to == b) l.initial.graph l.graph
