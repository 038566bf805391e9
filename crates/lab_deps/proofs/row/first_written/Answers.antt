use Rattle.std.{proofs.Common.{◌∙◌}, specs.FinMap.{entries}}
use Rattle.lab_deps.proofs.FirstOf.{first_states}
use Rattle.lab_deps.proofs.row.first_written.Goals as goal

pub returns : goal.returns
returns g c = λ passes each. c.first_row.ensures passes each ∙ first_states passes c.entries.result.now (entries c.args.writes.now) c.entries.ensures
