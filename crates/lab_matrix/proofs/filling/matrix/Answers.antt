use Rattle.std.proofs.lemmas.Result.{err_from_is_err_and}
use Rattle.lab_matrix.specs.declared.name.CaseName.TheVariants as name
use Rattle.lab_matrix.proofs.CasePlays.{each_case, promises_kept, before_first, before_next, first_of_all}
use Rattle.lab_matrix.proofs.filling.matrix.Goals as goal

pub returns-clause-cells : goal.returns-clause-cells
returns-clause-cells c =
    each_case _ c.in_ok-row_of_case.ensures.row c.in_ok-row_of_case-2.ensures.row c.in_ok-row_of_case-3.ensures.row c.in_ok-row_of_case-4.ensures.row c.in_ok-row_of_case-5.ensures.row
    c.in_ok-row_of_case-6.ensures.row c.in_ok-row_of_case-7.ensures.row c.in_ok-row_of_case-8.ensures.row c.in_ok-row_of_case-9.ensures.row c.in_ok-row_of_case-10.ensures.row

pub returns-clause-promised : goal.returns-clause-promised
returns-clause-promised c = promises_kept _ (returns-clause-cells c)

pub returns-in_err-row_of_case-clause-fault : goal.returns-in_err-row_of_case-clause-fault
returns-in_err-row_of_case-clause-fault c =
    let p = err_from_is_err_and c.from_residual.result c.from_residual.ensures.1 in
    rw (p.1, p.2) (first_of_all name.G0 _ before_first c.in_err-row_of_case.ensures.fault)

pub returns-in_err-row_of_case-2-clause-fault : goal.returns-in_err-row_of_case-2-clause-fault
returns-in_err-row_of_case-2-clause-fault c =
    let p = err_from_is_err_and c.from_residual-in_err-row_of_case-2.result c.from_residual-in_err-row_of_case-2.ensures.1 in
    rw (p.1, p.2) (first_of_all name.G1a _ (before_next name.G0 _ before_first c.in_ok-row_of_case.ensures.row) c.in_err-row_of_case-2.ensures.fault)

pub returns-in_err-row_of_case-3-clause-fault : goal.returns-in_err-row_of_case-3-clause-fault
returns-in_err-row_of_case-3-clause-fault c =
    let p = err_from_is_err_and c.from_residual-in_err-row_of_case-3.result c.from_residual-in_err-row_of_case-3.ensures.1 in
    rw (p.1, p.2) (first_of_all name.G1b _ (before_next name.G1a _ (before_next name.G0 _ before_first c.in_ok-row_of_case.ensures.row) c.in_ok-row_of_case-2.ensures.row) c.in_err-row_of_case-3.ensures.fault)

pub returns-in_err-row_of_case-4-clause-fault : goal.returns-in_err-row_of_case-4-clause-fault
returns-in_err-row_of_case-4-clause-fault c =
    let p = err_from_is_err_and c.from_residual-in_err-row_of_case-4.result c.from_residual-in_err-row_of_case-4.ensures.1 in
    rw (p.1, p.2) (first_of_all name.G1c _ (before_next name.G1b _ (before_next name.G1a _ (before_next name.G0 _ before_first c.in_ok-row_of_case.ensures.row) c.in_ok-row_of_case-2.ensures.row) c.in_ok-row_of_case-3.ensures.row) c.in_err-row_of_case-4.ensures.fault)

pub returns-in_err-row_of_case-5-clause-fault : goal.returns-in_err-row_of_case-5-clause-fault
returns-in_err-row_of_case-5-clause-fault c =
    let p = err_from_is_err_and c.from_residual-in_err-row_of_case-5.result c.from_residual-in_err-row_of_case-5.ensures.1 in
    rw (p.1, p.2) (first_of_all name.Otv _ (before_next name.G1c _ (before_next name.G1b _ (before_next name.G1a _ (before_next name.G0 _ before_first c.in_ok-row_of_case.ensures.row) c.in_ok-row_of_case-2.ensures.row) c.in_ok-row_of_case-3.ensures.row) c.in_ok-row_of_case-4.ensures.row) c.in_err-row_of_case-5.ensures.fault)

pub returns-in_err-row_of_case-6-clause-fault : goal.returns-in_err-row_of_case-6-clause-fault
returns-in_err-row_of_case-6-clause-fault c =
    let p = err_from_is_err_and c.from_residual-in_err-row_of_case-6.result c.from_residual-in_err-row_of_case-6.ensures.1 in
    rw (p.1, p.2) (first_of_all name.Pmp _ (before_next name.Otv _ (before_next name.G1c _ (before_next name.G1b _ (before_next name.G1a _ (before_next name.G0 _ before_first c.in_ok-row_of_case.ensures.row) c.in_ok-row_of_case-2.ensures.row) c.in_ok-row_of_case-3.ensures.row) c.in_ok-row_of_case-4.ensures.row) c.in_ok-row_of_case-5.ensures.row) c.in_err-row_of_case-6.ensures.fault)

pub returns-in_err-row_of_case-7-clause-fault : goal.returns-in_err-row_of_case-7-clause-fault
returns-in_err-row_of_case-7-clause-fault c =
    let p = err_from_is_err_and c.from_residual-in_err-row_of_case-7.result c.from_residual-in_err-row_of_case-7.ensures.1 in
    rw (p.1, p.2) (first_of_all name.P4 _ (before_next name.Pmp _ (before_next name.Otv _ (before_next name.G1c _ (before_next name.G1b _ (before_next name.G1a _ (before_next name.G0 _ before_first c.in_ok-row_of_case.ensures.row) c.in_ok-row_of_case-2.ensures.row) c.in_ok-row_of_case-3.ensures.row) c.in_ok-row_of_case-4.ensures.row) c.in_ok-row_of_case-5.ensures.row) c.in_ok-row_of_case-6.ensures.row) c.in_err-row_of_case-7.ensures.fault)

pub returns-in_err-row_of_case-8-clause-fault : goal.returns-in_err-row_of_case-8-clause-fault
returns-in_err-row_of_case-8-clause-fault c =
    let p = err_from_is_err_and c.from_residual-in_err-row_of_case-8.result c.from_residual-in_err-row_of_case-8.ensures.1 in
    rw (p.1, p.2) (first_of_all name.GSingle _ (before_next name.P4 _ (before_next name.Pmp _ (before_next name.Otv _ (before_next name.G1c _ (before_next name.G1b _ (before_next name.G1a _ (before_next name.G0 _ before_first c.in_ok-row_of_case.ensures.row) c.in_ok-row_of_case-2.ensures.row) c.in_ok-row_of_case-3.ensures.row) c.in_ok-row_of_case-4.ensures.row) c.in_ok-row_of_case-5.ensures.row) c.in_ok-row_of_case-6.ensures.row) c.in_ok-row_of_case-7.ensures.row) c.in_err-row_of_case-8.ensures.fault)

pub returns-in_err-row_of_case-9-clause-fault : goal.returns-in_err-row_of_case-9-clause-fault
returns-in_err-row_of_case-9-clause-fault c =
    let p = err_from_is_err_and c.from_residual-in_err-row_of_case-9.result c.from_residual-in_err-row_of_case-9.ensures.1 in
    rw (p.1, p.2) (first_of_all name.G2Item _ (before_next name.GSingle _ (before_next name.P4 _ (before_next name.Pmp _ (before_next name.Otv _ (before_next name.G1c _ (before_next name.G1b _ (before_next name.G1a _ (before_next name.G0 _ before_first c.in_ok-row_of_case.ensures.row) c.in_ok-row_of_case-2.ensures.row) c.in_ok-row_of_case-3.ensures.row) c.in_ok-row_of_case-4.ensures.row) c.in_ok-row_of_case-5.ensures.row) c.in_ok-row_of_case-6.ensures.row) c.in_ok-row_of_case-7.ensures.row) c.in_ok-row_of_case-8.ensures.row) c.in_err-row_of_case-9.ensures.fault)

pub returns-in_err-row_of_case-10-clause-fault : goal.returns-in_err-row_of_case-10-clause-fault
returns-in_err-row_of_case-10-clause-fault c =
    let p = err_from_is_err_and c.from_residual-in_err-row_of_case-10.result c.from_residual-in_err-row_of_case-10.ensures.1 in
    rw (p.1, p.2) (first_of_all name.G2 _ (before_next name.G2Item _ (before_next name.GSingle _ (before_next name.P4 _ (before_next name.Pmp _ (before_next name.Otv _ (before_next name.G1c _ (before_next name.G1b _ (before_next name.G1a _ (before_next name.G0 _ before_first c.in_ok-row_of_case.ensures.row) c.in_ok-row_of_case-2.ensures.row) c.in_ok-row_of_case-3.ensures.row) c.in_ok-row_of_case-4.ensures.row) c.in_ok-row_of_case-5.ensures.row) c.in_ok-row_of_case-6.ensures.row) c.in_ok-row_of_case-7.ensures.row) c.in_ok-row_of_case-8.ensures.row) c.in_ok-row_of_case-9.ensures.row) c.in_err-row_of_case-10.ensures.fault)
