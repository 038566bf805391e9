use Rattle.std.{proofs.Common.{◌∙◌}, specs.FinMap.{entries}}
use Rattle.lab_deps.{specs.Meetings.{installs_next}, proofs.FirstOf.{first_states}}
use Rattle.lab_deps.proofs.least.first_step.Goals as goal

pub returns : goal.returns
returns c =
    c.first_next.ensures
    ∙ first_states (installs_next c.args.history.now c.args.from c.args.to) c.entries.result.now (entries c.args.op.now.writes) c.entries.ensures
