use Rattle.lab_engine.proofs.Common.{eqb-false, sym, ◌∙◌}
use Rattle.lab_engine.proofs.waits.on_after.Goals as goal

pub returns : goal.returns
returns g c = λ past d described legal h other.
    let session = c.args.state.now.session in
    let alike = c.may_change.ensures _ _ past c.keeps_statements-keeps.ensures legal h (λ same. eqb-false session c.args.event.now.session (sym c.eq.ensures ∙ c.if-eq.false) (sym same)) c.if-may_change.false (sym described.waits ∙ c.in-Some.is) other in
    ((λ w. alike.1 ((h session other).0 (sym (c.on.ensures other) ∙ w))), (λ w. c.on.ensures other ∙ (h session other).1 (alike.0 w)))
