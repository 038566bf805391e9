use Rattle.lab_chain.proofs.PartSummaries.{run_of_pieces}
use Rattle.lab_chain.proofs.laws.pieces_make_the_run.Goals as goal

pub returns : goal.returns
returns c = run_of_pieces
