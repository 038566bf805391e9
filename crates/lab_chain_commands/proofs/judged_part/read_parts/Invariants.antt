use Rattle.std.proofs.Common.{◌≡◌, map, take}
use Rattle.lab_chain_commands.proofs.judged_part.read_parts.Given as goal

abbrev pub invariant-loop-name : goal.invariant-loop-name
invariant-loop-name g l = map (λ input. input.name.now) l.inputs.items ≡ map (λ name. name.now) (take l.name-index l.names)
