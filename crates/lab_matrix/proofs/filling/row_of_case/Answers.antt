use Rattle.std.proofs.lemmas.Result.{err_from_is_err_and}
use Rattle.lab_matrix.{specs.Matrix.{level_of}, proofs.CasePlays.{each_column, recorded, first_of_row, none_before, one_before, two_before}}
use Rattle.lab_matrix.specs.declared.cells.Column.TheVariants as column
use Rattle.lab_matrix.proofs.filling.row_of_case.Goals as goal

pub returns-clause-row : goal.returns-clause-row
returns-clause-row c = each_column c.args.name _ c.in_ok-cell_at.ensures.cell c.in_ok-cell_at-2.ensures.cell c.in_ok-cell_at-3.ensures.cell

pub returns-in_err-cell_at-clause-fault : goal.returns-in_err-cell_at-clause-fault
returns-in_err-cell_at-clause-fault c =
    let p = err_from_is_err_and c.from_residual.result c.from_residual.ensures.1 in
    rw (p.1, p.2) (first_of_row c.args.name column.Locking _ (none_before c.args.name) c.in_err-cell_at.ensures.fault)

pub returns-in_err-cell_at-2-clause-fault : goal.returns-in_err-cell_at-2-clause-fault
returns-in_err-cell_at-2-clause-fault c =
    let p = err_from_is_err_and c.from_residual-in_err-cell_at-2.result c.from_residual-in_err-cell_at-2.ensures.1 in
    rw (p.1, p.2)
    (first_of_row c.args.name column.Committed _ (one_before c.args.name (recorded c.args.name (level_of column.Locking) _ c.in_ok-cell_at.ensures.cell)) c.in_err-cell_at-2.ensures.fault)

pub returns-in_err-cell_at-3-clause-fault : goal.returns-in_err-cell_at-3-clause-fault
returns-in_err-cell_at-3-clause-fault c =
    let p = err_from_is_err_and c.from_residual-in_err-cell_at-3.result c.from_residual-in_err-cell_at-3.ensures.1 in
    rw (p.1, p.2)
    (first_of_row c.args.name column.Snapshot _
    (two_before c.args.name (recorded c.args.name (level_of column.Locking) _ c.in_ok-cell_at.ensures.cell) (recorded c.args.name (level_of column.Committed) _ c.in_ok-cell_at-2.ensures.cell))
    c.in_err-cell_at-3.ensures.fault)
