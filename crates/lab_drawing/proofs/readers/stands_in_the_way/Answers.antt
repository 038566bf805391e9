use Rattle.std.{proofs.Common.{◌≡◌, true, false, cond, sym, ◌∙◌, subst}, specs.Prelude.{IfOk}}
use Rattle.lab_drawing.specs.{Readers.{is_read_only, can_order}, declared.readers.Nodes.TheVariants.{Without}}
use Rattle.lab_drawing.proofs.readers.stands_in_the_way.Goals as goal

pub returns-then-is_read_only : goal.returns-then-is_read_only
returns-then-is_read_only c =
    let h = c.args.history.now in
    let n = c.args.txn in
    let is : is_read_only h n ≡ true = sym c.is_read_only.ensures ∙ c.if-is_read_only.true in
    subst (λ b. IfOk c.can_order_without.result (λ stands. stands ≡ cond b (can_order h (Without n)) false)) (sym is)
    (subst (λ t. IfOk c.can_order_without.result (λ stands. stands ≡ can_order t (Without n))) c.requires.same c.can_order_without.ensures)
