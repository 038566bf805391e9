use Rattle.lab_engine.{proofs.{Common.{arith, length-reverse, on_ok_weaker, past_of, sym, ◌∙◌, ◌∷◌}, EndPlaces.{fewer_active, few_active}}, specs.Sessions.{all_sessions}}
use Rattle.lab_engine.proofs.journal.reserve_place.Goals as goal

pub returns-then-ends_transaction-clause-next : goal.returns-then-ends_transaction-clause-next
returns-then-ends_transaction-clause-next c =
    let ending = sym c.ends_transaction.ensures ∙ c.if-ends_transaction.true in
    let fewer = fewer_active (past_of c.args.log.now.items) c.args.event.now ending all_sessions (c.requires.session ending) (c.requires.active ending) in
    omega (arith, fewer, c.requires.places)

pub returns-clause-next : goal.returns-clause-next
returns-clause-next c =
    let few = few_active (c.args.event.now ∷ past_of c.args.log.now.items) all_sessions in
    let same = length-reverse c.args.log.now.items in
    on_ok_weaker c.try_reserve.result (λ room. omega (arith, few, same, room)) c.try_reserve.ensures.ok
