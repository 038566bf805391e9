use Rattle.std.{proofs.Common.{◌≡◌, List, map, take}, specs.List.{All}}
use Rattle.lab_chain_commands.specs.JoinAnswers.{Named, IsNamed, joined_pieces, refusals_text, pieces_status}
use Rattle.lab_chain_commands.proofs.joining.read_pieces.Given as goal

abbrev pub invariant-loop-name : goal.invariant-loop-name
invariant-loop-name g l =
    (pieces : List Named) × (map (λ p. p.name) pieces ≡ map (λ name. name.now) (take l.name-index l.names)) × All IsNamed pieces
    × (l.summary ≡ joined_pieces pieces) × (l.refusals.items ≡ refusals_text l.asked.format pieces) × (l.status ≡ pieces_status pieces)
