use Rattle.std.{proofs.{Common.{refl, sym, subst, arith, inl, inr, get_or}, lemmas.Bool.{cases_eq}}, specs.Option.{IsSomeAnd}}
use Rattle.lab_table.{specs.Sessions.{all_sessions}, proofs.SessionOrder.{session_at, none_yet, own_value, other_value}}
use Rattle.lab_session.specs.Compared.{Says}
use Rattle.lab_session.proofs.comparison.unwalked.Goals as goal

pub loop-session-init : goal.loop-session-init
loop-session-init c = none_yet _

pub loop-session-preserved : goal.loop-session-preserved
loop-session-preserved c = λ s low high all.
    let seats = c.args.seats.now in
    let new = c.new.result in
    let at = session_at _ c.loop-session.session-index c.session-item.result refl c.loop-session-test.true in
    elim (cases_eq s (get_or all_sessions c.loop-session.session-index c.session-item.result)) [
      | inl same ↦ subst (λ o. IsSomeAnd o (Says seats s all all)) (sym (own_value _ _ _ new c.set.ensures.each s same))
          (subst (λ k. Says seats k all all new) (sym same) (c.new.ensures all))
      | inr apart ↦ subst (λ o. IsSomeAnd o (Says seats s all all)) (sym (other_value _ _ _ new c.set.ensures.each s apart))
          (c.loop-session.invariant s low (omega (arith, apart, at, high)) all)
    ]

pub returns : goal.returns
returns c = λ session all own. c.loop-session.invariant session own.0 (omega (arith, own.1, c.loop-session-test.false)) all
