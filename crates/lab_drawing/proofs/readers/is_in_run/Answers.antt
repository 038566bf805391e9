use Rattle.std.{proofs.Common.{◌≡◌, true, false, cond, sym, ap, ◌∙◌, subst}, specs.Prelude.{IfOk}}
use Rattle.lab_drawing.specs.{Readers.{can_order, some_stand_in_the_way}, declared.readers.Nodes.TheVariants.{Points}}
use Rattle.lab_drawing.proofs.readers.is_in_run.Goals as goal

pub returns-in_ok-all : goal.returns-in_ok-all
returns-in_ok-all c =
    let h = c.args.history.now in
    let walk = c.args.walk.now in
    let is : can_order h Points ≡ true = ap (λ t. can_order t Points) (sym c.requires) ∙ sym c.in_ok-can.ensures ∙ c.if-can.true in
    subst (λ b. IfOk c.some_stand_in_the_way.result (λ is_in. is_in ≡ cond b (some_stand_in_the_way h walk) false)) (sym is) c.some_stand_in_the_way.ensures

pub returns-else-can : goal.returns-else-can
returns-else-can c =
    let h = c.args.history.now in
    let walk = c.args.walk.now in
    let isnt : can_order h Points ≡ false = ap (λ t. can_order t Points) (sym c.requires) ∙ sym c.in_ok-can.ensures ∙ c.if-can.false in
    sym (ap (λ b. cond b (some_stand_in_the_way h walk) false) isnt)
