use Rattle.std.proofs.Common.{rules}
use Rattle.lab_chain_commands.proofs.judged_part.judged.Goals as goal

pub returns : goal.returns
returns c = λ bytes held. (c.args.history.now, held, c.in_ok-report.ensures.exact, search rules, search rules)
