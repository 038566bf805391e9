use Rattle.std.proofs.{Common.{refl}, lemmas.Result.{err_from_is_err_and}}
use Rattle.lab_matrix.specs.declared.name.CaseName.TheVariants as name
use Rattle.lab_matrix.proofs.AtLevels.{each_report, promise_kept, under_first, under_next, first_at}
use Rattle.lab_matrix.proofs.columns.reports_at.Goals as goal

pub returns-clause-reports : goal.returns-clause-reports
returns-clause-reports c =
    each_report c.args.level _ refl c.in_ok-cell_at.ensures.cell c.in_ok-cell_at-2.ensures.cell c.in_ok-cell_at-3.ensures.cell c.in_ok-cell_at-4.ensures.cell c.in_ok-cell_at-5.ensures.cell
    c.in_ok-cell_at-6.ensures.cell c.in_ok-cell_at-7.ensures.cell c.in_ok-cell_at-8.ensures.cell c.in_ok-cell_at-9.ensures.cell c.in_ok-cell_at-10.ensures.cell

pub returns-clause-promised : goal.returns-clause-promised
returns-clause-promised c = promise_kept c.args.level _ (returns-clause-reports c)

pub returns-in_err-cell_at-clause-fault : goal.returns-in_err-cell_at-clause-fault
returns-in_err-cell_at-clause-fault c =
    let p = err_from_is_err_and c.from_residual.result c.from_residual.ensures.1 in
    rw (p.1, p.2) (first_at c.args.level name.G0 _ (under_first c.args.level) c.in_err-cell_at.ensures.fault)

pub returns-in_err-cell_at-2-clause-fault : goal.returns-in_err-cell_at-2-clause-fault
returns-in_err-cell_at-2-clause-fault c =
    let p = err_from_is_err_and c.from_residual-in_err-cell_at-2.result c.from_residual-in_err-cell_at-2.ensures.1 in
    rw (p.1, p.2) (first_at c.args.level name.G1a _ (under_next c.args.level name.G0 _ (under_first c.args.level) c.in_ok-cell_at.ensures.cell) c.in_err-cell_at-2.ensures.fault)

pub returns-in_err-cell_at-3-clause-fault : goal.returns-in_err-cell_at-3-clause-fault
returns-in_err-cell_at-3-clause-fault c =
    let p = err_from_is_err_and c.from_residual-in_err-cell_at-3.result c.from_residual-in_err-cell_at-3.ensures.1 in
    rw (p.1, p.2) (first_at c.args.level name.G1b _ (under_next c.args.level name.G1a _ (under_next c.args.level name.G0 _ (under_first c.args.level) c.in_ok-cell_at.ensures.cell) c.in_ok-cell_at-2.ensures.cell) c.in_err-cell_at-3.ensures.fault)

pub returns-in_err-cell_at-4-clause-fault : goal.returns-in_err-cell_at-4-clause-fault
returns-in_err-cell_at-4-clause-fault c =
    let p = err_from_is_err_and c.from_residual-in_err-cell_at-4.result c.from_residual-in_err-cell_at-4.ensures.1 in
    rw (p.1, p.2) (first_at c.args.level name.G1c _ (under_next c.args.level name.G1b _ (under_next c.args.level name.G1a _ (under_next c.args.level name.G0 _ (under_first c.args.level) c.in_ok-cell_at.ensures.cell) c.in_ok-cell_at-2.ensures.cell) c.in_ok-cell_at-3.ensures.cell) c.in_err-cell_at-4.ensures.fault)

pub returns-in_err-cell_at-5-clause-fault : goal.returns-in_err-cell_at-5-clause-fault
returns-in_err-cell_at-5-clause-fault c =
    let p = err_from_is_err_and c.from_residual-in_err-cell_at-5.result c.from_residual-in_err-cell_at-5.ensures.1 in
    rw (p.1, p.2) (first_at c.args.level name.Otv _ (under_next c.args.level name.G1c _ (under_next c.args.level name.G1b _ (under_next c.args.level name.G1a _ (under_next c.args.level name.G0 _ (under_first c.args.level) c.in_ok-cell_at.ensures.cell) c.in_ok-cell_at-2.ensures.cell) c.in_ok-cell_at-3.ensures.cell) c.in_ok-cell_at-4.ensures.cell) c.in_err-cell_at-5.ensures.fault)

pub returns-in_err-cell_at-6-clause-fault : goal.returns-in_err-cell_at-6-clause-fault
returns-in_err-cell_at-6-clause-fault c =
    let p = err_from_is_err_and c.from_residual-in_err-cell_at-6.result c.from_residual-in_err-cell_at-6.ensures.1 in
    rw (p.1, p.2) (first_at c.args.level name.Pmp _ (under_next c.args.level name.Otv _ (under_next c.args.level name.G1c _ (under_next c.args.level name.G1b _ (under_next c.args.level name.G1a _ (under_next c.args.level name.G0 _ (under_first c.args.level) c.in_ok-cell_at.ensures.cell) c.in_ok-cell_at-2.ensures.cell) c.in_ok-cell_at-3.ensures.cell) c.in_ok-cell_at-4.ensures.cell) c.in_ok-cell_at-5.ensures.cell) c.in_err-cell_at-6.ensures.fault)

pub returns-in_err-cell_at-7-clause-fault : goal.returns-in_err-cell_at-7-clause-fault
returns-in_err-cell_at-7-clause-fault c =
    let p = err_from_is_err_and c.from_residual-in_err-cell_at-7.result c.from_residual-in_err-cell_at-7.ensures.1 in
    rw (p.1, p.2) (first_at c.args.level name.P4 _ (under_next c.args.level name.Pmp _ (under_next c.args.level name.Otv _ (under_next c.args.level name.G1c _ (under_next c.args.level name.G1b _ (under_next c.args.level name.G1a _ (under_next c.args.level name.G0 _ (under_first c.args.level) c.in_ok-cell_at.ensures.cell) c.in_ok-cell_at-2.ensures.cell) c.in_ok-cell_at-3.ensures.cell) c.in_ok-cell_at-4.ensures.cell) c.in_ok-cell_at-5.ensures.cell) c.in_ok-cell_at-6.ensures.cell) c.in_err-cell_at-7.ensures.fault)

pub returns-in_err-cell_at-8-clause-fault : goal.returns-in_err-cell_at-8-clause-fault
returns-in_err-cell_at-8-clause-fault c =
    let p = err_from_is_err_and c.from_residual-in_err-cell_at-8.result c.from_residual-in_err-cell_at-8.ensures.1 in
    rw (p.1, p.2) (first_at c.args.level name.GSingle _ (under_next c.args.level name.P4 _ (under_next c.args.level name.Pmp _ (under_next c.args.level name.Otv _ (under_next c.args.level name.G1c _ (under_next c.args.level name.G1b _ (under_next c.args.level name.G1a _ (under_next c.args.level name.G0 _ (under_first c.args.level) c.in_ok-cell_at.ensures.cell) c.in_ok-cell_at-2.ensures.cell) c.in_ok-cell_at-3.ensures.cell) c.in_ok-cell_at-4.ensures.cell) c.in_ok-cell_at-5.ensures.cell) c.in_ok-cell_at-6.ensures.cell) c.in_ok-cell_at-7.ensures.cell) c.in_err-cell_at-8.ensures.fault)

pub returns-in_err-cell_at-9-clause-fault : goal.returns-in_err-cell_at-9-clause-fault
returns-in_err-cell_at-9-clause-fault c =
    let p = err_from_is_err_and c.from_residual-in_err-cell_at-9.result c.from_residual-in_err-cell_at-9.ensures.1 in
    rw (p.1, p.2) (first_at c.args.level name.G2Item _ (under_next c.args.level name.GSingle _ (under_next c.args.level name.P4 _ (under_next c.args.level name.Pmp _ (under_next c.args.level name.Otv _ (under_next c.args.level name.G1c _ (under_next c.args.level name.G1b _ (under_next c.args.level name.G1a _ (under_next c.args.level name.G0 _ (under_first c.args.level) c.in_ok-cell_at.ensures.cell) c.in_ok-cell_at-2.ensures.cell) c.in_ok-cell_at-3.ensures.cell) c.in_ok-cell_at-4.ensures.cell) c.in_ok-cell_at-5.ensures.cell) c.in_ok-cell_at-6.ensures.cell) c.in_ok-cell_at-7.ensures.cell) c.in_ok-cell_at-8.ensures.cell) c.in_err-cell_at-9.ensures.fault)

pub returns-in_err-cell_at-10-clause-fault : goal.returns-in_err-cell_at-10-clause-fault
returns-in_err-cell_at-10-clause-fault c =
    let p = err_from_is_err_and c.from_residual-in_err-cell_at-10.result c.from_residual-in_err-cell_at-10.ensures.1 in
    rw (p.1, p.2) (first_at c.args.level name.G2 _ (under_next c.args.level name.G2Item _ (under_next c.args.level name.GSingle _ (under_next c.args.level name.P4 _ (under_next c.args.level name.Pmp _ (under_next c.args.level name.Otv _ (under_next c.args.level name.G1c _ (under_next c.args.level name.G1b _ (under_next c.args.level name.G1a _ (under_next c.args.level name.G0 _ (under_first c.args.level) c.in_ok-cell_at.ensures.cell) c.in_ok-cell_at-2.ensures.cell) c.in_ok-cell_at-3.ensures.cell) c.in_ok-cell_at-4.ensures.cell) c.in_ok-cell_at-5.ensures.cell) c.in_ok-cell_at-6.ensures.cell) c.in_ok-cell_at-7.ensures.cell) c.in_ok-cell_at-8.ensures.cell) c.in_ok-cell_at-9.ensures.cell) c.in_err-cell_at-10.ensures.fault)
