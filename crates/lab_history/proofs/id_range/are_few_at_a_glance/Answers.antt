use Rattle.std.{proofs.Common.{◌≡◌, ◌+◌, IfSome, sym, subst, ◌∙◌, arith}, specs.List.{sum_by}}
use Rattle.lab_table.proofs.Tests.{some_of}
use Rattle.lab_history.{specs.{HistoryRules.{named_rows}, IdRanges.{rows_in}}, proofs.FewIds.{few_in_ranges}}
use Rattle.lab_history.proofs.id_range.are_few_at_a_glance.Goals as goal

pub returns-then-is_some : goal.returns-then-is_some
returns-then-is_some c = λ all.
    let ranges = c.around-ranges.result.ranges in
    let few = few_in_ranges ranges (named_rows c.args.parts.now) (sym c.have_all.ensures ∙ all) in
    let room = some_of c.room_beside.result (sym c.is_some.ensures ∙ c.if-is_some.true) in
    let sum : room.0 + sum_by rows_in ranges ≡ 1000 = subst (λ found. IfSome found (λ room. room + sum_by rows_in ranges ≡ 1000)) room.1 c.room_beside.ensures in
    omega arith
