use Rattle.lab_chain.proofs.JoinedSummaries.{joined_three}
use Rattle.lab_chain.proofs.laws.joining_is_associative.Goals as goal

pub returns : goal.returns
returns c = joined_three
