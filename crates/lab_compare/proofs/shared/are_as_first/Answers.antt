use Rattle.std.proofs.Common.{sym}
use Rattle.lab_compare.proofs.SameRows.{none_differ}
use Rattle.lab_compare.proofs.shared.are_as_first.Goals as goal

pub returns-then-is_within : goal.returns-then-is_within
returns-then-is_within c = λ test mark.
    none_differ c.args.most c.args.place c.count_at-count.result (c.is_within.ensures c.if-is_within.true) c.args.first.now (sym c.count_at-count.ensures) c.args.others.now c.requires (c.are_at.ensures test) mark
