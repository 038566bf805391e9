use Rattle.std.proofs.Common.{sym, subst}
use Rattle.lab_optimistic.{specs.Reads.{IsLeastRead}, proofs.LeastReads.{first_is_least}}
use Rattle.lab_optimistic.proofs.reads.least_written.Goals as goal

pub returns : goal.returns
returns c =
    let asker = c.args.asker.now in
    subst (IsLeastRead asker) (sym c.first_of.ensures.first) (first_is_least asker c.by_row.result.now.entries c.by_row.ensures c.first_of.ensures.ordered)
