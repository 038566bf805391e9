use Rattle.std.proofs.{Common.{rules}, lemmas.List.Sorted.{IsPartitionPoint-from_clause}}
use Rattle.lab_table.{specs.{Row.{numbered}, Running.{comes_after}}, proofs.Searching.{parted, point_is}}
use Rattle.lab_table.proofs.by_row.place_in_tables.Goals as goal

pub returns-clause-value : goal.returns-clause-value
returns-clause-value g c =
    point_is (comes_after (numbered c.args.table c.args.number)) c.args.entries.now c.partition_point.result c.partition_point.ensures.bound
    (IsPartitionPoint-from_clause (comes_after (numbered c.args.table c.args.number)) c.args.entries.now c.partition_point.result c.partition_point.ensures.partitioned (parted (numbered c.args.table c.args.number) c.args.entries.now c.requires)
    (λ a r f' called. (search rules, search rules)))
