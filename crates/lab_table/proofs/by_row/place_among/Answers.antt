use Rattle.std.{proofs.{Common.{rules}, lemmas.List.Sorted.{IsPartitionPoint-from_clause}}, specs.Prelude.{nat_lt}}
use Rattle.lab_table.proofs.OneTable.{parted_numbers, number_point}
use Rattle.lab_table.proofs.by_row.place_among.Goals as goal

pub returns-clause-value : goal.returns-clause-value
returns-clause-value g c =
    let es = c.args.entries.now in
    number_point c.args.table c.args.number es c.requires.sorted c.requires.one c.partition_point.result c.partition_point.ensures.bound
    (IsPartitionPoint-from_clause (λ e. nat_lt e.0.id c.args.number) es c.partition_point.result c.partition_point.ensures.partitioned
    (parted_numbers c.args.table c.args.number es c.requires.sorted c.requires.one) (λ a r f' called. (search rules, search rules)))
