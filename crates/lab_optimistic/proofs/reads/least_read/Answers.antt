use Rattle.std.proofs.{Common.{◌+◌, ◌∙◌, ◌||◌, sym, ap, subst, take, arith}, lemmas.List.{take_all}}
use Rattle.lab_engine.proofs.Common.{list_any_more, may_match, Row}
use Rattle.lab_optimistic.{specs.Reads.{any_may_match, IsLeastOf, nearer}, proofs.LeastReads.{least_fewer, least_nearer, named_all}}
use Rattle.lab_optimistic.proofs.reads.least_read.Goals as goal

pub loop-statement-preserved : goal.loop-statement-preserved
loop-statement-preserved c =
    let asker = c.args.asker.now in
    let i = c.loop-statement.statement-index in
    let all = c.statements-statement-items.result.now in
    let s = c.statement-item.result in
    subst (IsLeastOf asker (any_may_match (take (i + 1) all))) (sym c.nearer-least.ensures)
    (least_fewer asker (λ row. any_may_match (take i all) row || may_match s row) (any_may_match (take (i + 1) all)) _
    (λ row any. sym (list_any_more (λ s. may_match s row) all i s c.loop-statement-test.true ∙ ap (λ x. any_may_match (take i all) row || may_match x row) (sym c.statement-item.is)) ∙ any)
    (least_nearer asker (any_may_match (take i all)) s c.in-Some.row c.in-Some.ensures.only c.loop-statement.least c.loop-statement.invariant))

pub returns : goal.returns
returns c =
    named_all c.args.asker.now c.loop-statement.least
    (subst (λ ss. IsLeastOf c.args.asker.now (any_may_match ss) c.loop-statement.least)
    (take_all c.loop-statement.statement-index c.statements-statement-items.result.now (omega (arith, c.loop-statement-test.false)) ∙ c.statements-statement-items.ensures) c.loop-statement.invariant)
