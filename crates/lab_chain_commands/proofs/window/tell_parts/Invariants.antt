use Rattle.std.{proofs.Common.{◌≡◌}, specs.{Prelude.{fold, max}, List.{flat_map}}}
use Rattle.lab_chain.specs.{Chain.{with_part}, Summary.{nothing}}
use Rattle.lab_chain_commands.specs.{ChainAnswers.{outcome_text, outcome_status}, JudgedParts.{part_of}}
use Rattle.lab_chain_commands.proofs.window.tell_parts.Given as goal

abbrev pub invariant-loop-part : goal.invariant-loop-part
invariant-loop-part l =
    (l.window.summary ≡ fold (λ s p. with_part s (part_of p)) nothing l.yielded)
    × (l.window.status ≡ fold (λ s p. max s (outcome_status p.outcome)) 0 l.yielded)
    × (l.window.text.items ≡ flat_map (λ p. outcome_text l.asked p.name.now p.outcome) l.yielded)
