use Rattle.std.{proofs.Common.{◌≡◌, true, false, cond, sym, ap, ◌∙◌, subst}, specs.Prelude.{IfOk}}
use Rattle.lab_drawing.specs.Readers.{may_be, is_in_run}
use Rattle.lab_drawing.proofs.readers.is_read_only_anomaly.Goals as goal

pub returns-then-may : goal.returns-then-may
returns-then-may c =
    let h = c.args.history.now in
    let walk = c.args.walk.now in
    let is : may_be h walk ≡ true = sym c.may_be-may.ensures ∙ c.if-may.true in
    subst (λ b. IfOk c.is_in_history.result (λ is_one. is_one ≡ cond b (is_in_run h walk) false)) (sym is) c.is_in_history.ensures

pub returns-else-may : goal.returns-else-may
returns-else-may c =
    let h = c.args.history.now in
    let walk = c.args.walk.now in
    sym (ap (λ b. cond b (is_in_run h walk) false) (sym c.may_be-may.ensures ∙ c.if-may.false))
