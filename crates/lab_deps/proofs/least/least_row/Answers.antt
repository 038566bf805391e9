use Rattle.std.{proofs.Common.{sym, subst}, specs.Prelude.{IfOk}}
use Rattle.lab_deps.{specs.{Edges.{Depends}, FirstOf.{IsLeastRow}, declared.edge.Kind.TheVariants.{Write}}, proofs.MetRows.{step_least}}
use Rattle.lab_deps.proofs.least.least_row.Goals as goal

pub returns-in-Write : goal.returns-in-Write
returns-in-Write c =
    let h = c.args.history.now in
    let a = c.args in
    subst (λ k. IsLeastRow (λ row. Depends h k row a.from a.to) c.least_step.result) (sym c.in-Write.is)
    (subst (IsLeastRow (λ row. Depends h Write row a.from a.to)) (sym c.least_step.ensures) (step_least h c.requires.placed a.from a.to))

pub returns-in-ItemRead : goal.returns-in-ItemRead
returns-in-ItemRead c =
    subst (λ k. IfOk c.least_meeting.result (IsLeastRow (λ row. Depends c.args.history.now k row c.args.from c.args.to))) (sym c.in-ItemRead.is) c.least_meeting.ensures

pub returns-in-PredicateRead : goal.returns-in-PredicateRead
returns-in-PredicateRead c =
    let met = c.least_meeting-in-PredicateRead in
    subst (λ k. IfOk met.result (IsLeastRow (λ row. Depends c.args.history.now k row c.args.from c.args.to))) (sym c.in-PredicateRead.is) met.ensures

pub returns-in-ItemAnti : goal.returns-in-ItemAnti
returns-in-ItemAnti c =
    let met = c.least_meeting-in-ItemAnti in
    subst (λ k. IfOk met.result (IsLeastRow (λ row. Depends c.args.history.now k row c.args.from c.args.to))) (sym c.in-ItemAnti.is) met.ensures

pub returns-in-PredicateAnti : goal.returns-in-PredicateAnti
returns-in-PredicateAnti c =
    let met = c.least_meeting-in-PredicateAnti in
    subst (λ k. IfOk met.result (IsLeastRow (λ row. Depends c.args.history.now k row c.args.from c.args.to))) (sym c.in-PredicateAnti.is) met.ensures
