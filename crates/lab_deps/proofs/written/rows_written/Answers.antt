use Rattle.std.{proofs.{Common.{sym, subst}, lemmas.List.{Filters.{dedup_is}, Kept.{Contains-dedup, IsStrictlySortedBy-dedup}, Sorted.{Contains-permutation}}}, specs.Prelude.{Contains}}
use Rattle.lab_table.{specs.Row.{rows_equiv, rows_total, rows_tested}, proofs.Maps.{tested_same}}
use Rattle.lab_deps.proofs.WrittenRows.{written_there}
use Rattle.lab_deps.proofs.written.rows_written.Goals as goal

pub returns-clause-has : goal.returns-clause-has
returns-clause-has c = λ op row there writes.
    let ops = c.committed_ops.result.now in
    let all = subst (λ os. Contains os op) (sym c.committed_ops.ensures) there in
    let first = subst (λ rs. Contains rs row) (sym c.in_ok-rows.ensures) (written_there ops op row all writes) in
    let is = dedup_is _ _ _ c.dedup.ensures.filtered in
    rw is (Contains-dedup rows_equiv (λ x y same. tested_same x y same) _ row (Contains-permutation _ _ row c.sort.ensures.permutation first))

pub returns-clause-rises : goal.returns-clause-rises
returns-clause-rises c = rw (dedup_is _ _ _ c.dedup.ensures.filtered) (IsStrictlySortedBy-dedup rows_total rows_tested _ c.in_ok-sort.ensures.sorted)
