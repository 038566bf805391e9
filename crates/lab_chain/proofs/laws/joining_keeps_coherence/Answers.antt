use Rattle.lab_chain.proofs.CoherentPieces.{coherent_joined}
use Rattle.lab_chain.proofs.laws.joining_keeps_coherence.Goals as goal

pub returns : goal.returns
returns c = coherent_joined
