use Rattle.lab_chain.proofs.Differences.{same_tables, no_difference, least_difference}
use Rattle.lab_chain.proofs.laws.differences_are_least.Goals as goal

pub returns-clause-same : goal.returns-clause-same
returns-clause-same c = λ a b. (same_tables a b, no_difference a b)

pub returns-clause-least : goal.returns-clause-least
returns-clause-least c = least_difference
