use Rattle.lab_chain.proofs.CoherentParts.{coherent_run}
use Rattle.lab_chain.proofs.laws.runs_are_coherent.Goals as goal

pub returns : goal.returns
returns c = coherent_run
