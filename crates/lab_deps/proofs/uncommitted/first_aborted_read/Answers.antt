use Rattle.lab_deps.proofs.UncommittedReads.{if_some, aborted_stands, aborted_tested, aborted_first}
use Rattle.lab_deps.proofs.uncommitted.first_aborted_read.Goals as goal

pub returns-clause-found : goal.returns-clause-found
returns-clause-found c = if_some _ _ c.first_of_kind.result (λ read. aborted_stands c.args.history.now read.txn read.op read.row) c.first_of_kind.ensures.found

pub returns-clause-first : goal.returns-clause-first
returns-clause-first c = if_some _ _ c.first_of_kind.result (λ read. aborted_first c.args.history.now read.txn read.op read.row) c.first_of_kind.ensures.first

pub returns-clause-none : goal.returns-clause-none
returns-clause-none c = λ none n k row stands. c.first_of_kind.ensures.none none n k row (aborted_tested c.args.history.now n k row stands)
