use Rattle.std.{proofs.Common.{◌≡◌, ◌≤◌, ◌+◌, ◌-◌, length, map, take, drop}, specs.Prelude.{min}}
use Rattle.lab_chain_commands.specs.ChainAnswers.{IsTold}
use Rattle.lab_chain_commands.proofs.chaining.chain_windows.Given as goal

-- what was written so far is of the names in front of those that are left, of which the first were read
abbrev pub invariant-loop-done : goal.invariant-loop-done
invariant-loop-done g l =
    (l.done ≤ length l.names) × (l.end ≡ min (length l.names) (l.done + 16))
    × (map (λ input. input.name.now) l.inputs.items ≡ map (λ name. name.now) (take (l.end - l.done) (drop l.done l.names)))
    × IsTold l.asked (map (λ name. name.now) (take l.done l.names)) (g.W.Write.contents l.initial.writer) (g.W.Write.contents l.writer) l.so_far.summary l.so_far.status

abbrev pub decreases-loop-done : goal.decreases-loop-done
decreases-loop-done g l = length l.names - l.done
