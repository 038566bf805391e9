use Rattle.std.proofs.Common.{ap, ◌==◌, ◌∙◌, arith}
use Rattle.lab_table.proofs.SameBytes.{none_differ}
use Rattle.lab_table.proofs.table_name.are_same.Goals as goal

pub returns : goal.returns
returns c = ap (λ bits. bits == 0) c.differing.ensures ∙ none_differ c.args.a c.args.b (omega arith)
