use Rattle.lab_deps.proofs.Searches.{aborted_passed}
use Rattle.lab_deps.proofs.search.first_in_txn.Goals as goal

pub returns-in-Aborted : goal.returns-in-Aborted
returns-in-Aborted c = aborted_passed c.args.history.now c.args.kinds.now c.args.txn.now c.requires.txn.found c.in-Aborted.is c.args.found c.requires.found
