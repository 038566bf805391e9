use Rattle.lab_engine.proofs.{Common.{ap, AreWaits, list_any, subst, sym, ◌==◌, ◌∙◌}, Circles.{deadlock_is}, Waiting.{waits_with}}
use Rattle.lab_engine.proofs.waits.deadlock.Goals as goal

pub returns : goal.returns
returns c = λ level past s h may are.
    deadlock_is level c.args.asker.now.setup.now past c.put.new.self c.args.asker.now.session s
    (waits_with level c.args.asker.now.setup.now past c.args.asker.now.session s c.copy-waits.result c.put.new.self c.of.result c.args.on.now
    (subst (AreWaits level c.args.asker.now.setup.now past) (sym c.copy-waits.ensures) h) c.put.ensures (λ n. c.of.ensures n ∙ ap (list_any (λ o. o == n)) c.as_slice.ensures) are)
    may c.shortest_circle.result c.shortest_circle.ensures
