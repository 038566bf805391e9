use Rattle.std.{proofs.Common.{◌≡◌}, specs.{Prelude.{fold, max}, List.{flat_map}}}
use Rattle.lab_commands.specs.Batching.{part_text, part_status}
use Rattle.lab_commands.proofs.judged_files.batch_answer.Given as goal

abbrev pub invariant-loop-name : goal.invariant-loop-name
invariant-loop-name g l =
    (l.text.items ≡ flat_map (λ y. part_text l.wanted.format y.0.0.now.now y.0.1.now y.1.now) l.yielded)
    × (l.greatest ≡ fold (λ s y. max s (part_status l.wanted.requirement y.0.1.now y.1.now)) 0 l.yielded)
