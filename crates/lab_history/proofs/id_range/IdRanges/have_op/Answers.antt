use Rattle.std.{proofs.{Common.{T, Bool, sym, subst, arith}, lemmas.Grind.{common_steps}}, specs.FinMap.{entries_sorted, is_sorted}}
use Rattle.lab_table.specs.Row.{Row, row_cmp}
use Rattle.lab_history.{specs.IdRanges.{have_row}, proofs.{NewStates.{new_states_sorted}, NamedRows.{op_passes, states_pass}, id_range.IdRanges.have_op.Goals.{then-have_rows, else-have_rows}}}
use Rattle.lab_history.proofs.id_range.IdRanges.have_op.Goals as goal

pub have_rows-requires : goal.have_rows-requires
have_rows-requires c = subst (λ es. T (is_sorted row_cmp es)) (sym c.entries.ensures) (entries_sorted c.args.op.now.view)

pub have_rows-requires-then-have_rows : goal.have_rows-requires-then-have_rows
have_rows-requires-then-have_rows c = subst (λ es. T (is_sorted row_cmp es)) (sym c.entries-then-have_rows.ensures) (entries_sorted c.args.op.now.rows)

pub have_rows-requires-then-have_rows-2 : goal.have_rows-requires-then-have_rows-2
have_rows-requires-then-have_rows-2 c =
    let es = c.entries-then-have_rows-2.result.now in
    subst T (new_states_sorted es) (subst (λ ws. T (is_sorted row_cmp ws)) (sym c.entries-then-have_rows-2.ensures) (entries_sorted c.args.op.now.writes))

pub returns-then-have_rows-2 : goal.returns-then-have_rows-2
returns-then-have_rows-2 c =
    let p : Row → Bool = have_row c.args.self.now.ranges in
    elim c.if-have_rows.branch [
      | then-have_rows w ↦ grind (arith, common_steps, op_passes p c.args.op.now, states_pass p c.entries-then-have_rows-2.result.now)
      | else-have_rows w ↦ cc
    ]
