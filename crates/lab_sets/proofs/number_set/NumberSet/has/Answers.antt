use Rattle.std.{proofs.Common.{ap, ◌∙◌, ◌/◌, ◌%◌, ◌^◌, ◌==◌}, specs.Prelude.{bit_and}}
use Rattle.lab_sets.proofs.Words.{tested}
use Rattle.lab_sets.proofs.number_set.NumberSet.has.Goals as goal

pub returns : goal.returns
returns c = ap (λ word. bit_and (word / 2 ^ (c.args.number % 64)) 1 == 1) c.word.ensures ∙ tested c.args.self.now c.args.number
