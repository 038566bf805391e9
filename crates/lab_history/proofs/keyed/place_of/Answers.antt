use Rattle.std.proofs.{Common.{rules}, lemmas.List.Sorted.{IsPartitionPoint-from_clause}}
use Rattle.lab_history.proofs.Halving.{below, parted}
use Rattle.lab_history.proofs.keyed.place_of.Goals as goal

pub returns-clause-point : goal.returns-clause-point
returns-clause-point g c =
    IsPartitionPoint-from_clause (below g.met.K.Ord.total c.args.key) c.args.entries.now c.partition_point.result c.partition_point.ensures.partitioned
    (parted g.met.K.Ord.total c.args.key c.args.entries.now c.requires) (λ a r f' called. (search rules, search rules))
