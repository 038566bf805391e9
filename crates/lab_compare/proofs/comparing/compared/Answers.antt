use Rattle.std.proofs.Common.{rules}
use Rattle.lab_compare.proofs.comparing.compared.Goals as goal

pub returns-clause-text : goal.returns-clause-text
returns-clause-text c = (c.in_ok-sides.sides.items, c.in_ok-sides.ensures.sides, search rules)
