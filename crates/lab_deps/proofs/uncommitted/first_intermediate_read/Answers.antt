use Rattle.lab_deps.proofs.UncommittedReads.{if_some, intermediate_stands, intermediate_tested, intermediate_first}
use Rattle.lab_deps.proofs.uncommitted.first_intermediate_read.Goals as goal

pub returns-clause-found : goal.returns-clause-found
returns-clause-found c = if_some _ _ c.first_of_kind.result (λ read. intermediate_stands c.args.history.now read.txn read.op read.row) c.first_of_kind.ensures.found

pub returns-clause-first : goal.returns-clause-first
returns-clause-first c = if_some _ _ c.first_of_kind.result (λ read. intermediate_first c.args.history.now read.txn read.op read.row) c.first_of_kind.ensures.first

pub returns-clause-none : goal.returns-clause-none
returns-clause-none c = λ none n k row stands. c.first_of_kind.ensures.none none n k row (intermediate_tested c.args.history.now n k row stands)
