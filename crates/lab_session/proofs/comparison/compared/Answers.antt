use Rattle.std.{proofs.{Common.{◌+◌, List, sym, subst, ap, ◌∙◌, drop, inl, inr}, lemmas.Bool.{cases_eq}}, specs.Option.{IsSomeAnd}}
use Rattle.lab_table.{specs.Sessions.{of_session}, proofs.SessionOrder.{own_value, other_value}}
use Rattle.lab_session.{specs.{declared.seat.Call.{Call}, Seats.{calls_behind, placed_calls}, Compared.{Says}}, proofs.Comparing.{behind_own, behind_other}}
use Rattle.lab_session.proofs.comparison.compared.Goals as goal

pub loop-before-init : goal.loop-before-init
loop-before-init c = λ session own. c.unwalked-comparisons.ensures session (placed_calls session c.args.log.now) own

pub loop-before-preserved : goal.loop-before-preserved
loop-before-preserved c = λ session own.
    let seats = c.args.seats.now in
    let log = c.args.log.now in
    let before = c.loop-before.before in
    let event = c.index-log-before.result in
    let all = placed_calls session log in
    let rest = calls_behind session (before + 1) (drop (before + 1) log) in
    let was = c.loop-before.invariant session own in
    elim (cases_eq session event.session) [
      | inl same ↦
          let old = c.get.result in
          let old_one : Says seats session all (calls_behind session before (drop before log)) old =
          subst (λ o. IsSomeAnd o (Says seats session all (calls_behind session before (drop before log)))) (ap (of_session c.loop-before.comparisons) same ∙ c.get.ensures.value) was in
          let next = subst (λ (l : List Call). Says seats session all l old) (behind_own session before log event c.loop-before-test.true c.index-log-before.is (sym same)) old_one in
          subst (λ o. IsSomeAnd o (Says seats session all rest)) (sym (own_value _ _ event.session _ c.set.ensures.each session same)) (c.after-comparison.ensures seats session all rest next)
      | inr apart ↦
          subst (λ o. IsSomeAnd o (Says seats session all rest)) (sym (other_value _ _ event.session _ c.set.ensures.each session apart))
          (subst (λ (l : List Call). IsSomeAnd (of_session c.loop-before.comparisons session) (Says seats session all l))
          (behind_other session before log event c.loop-before-test.true c.index-log-before.is (λ same. apart (sym same))) was)
    ]
