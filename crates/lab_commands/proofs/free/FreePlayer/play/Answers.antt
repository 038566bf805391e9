use denote.Param.Send.{sendable}
use Rattle.std.proofs.{Common.{inl, sym, ◌∙◌}, lemmas.Result.{IfErr-weaker}}
use Rattle.lab_engine.proofs.Crosses.{journal}
use Rattle.lab_session.specs.{Play.{given_lines}, Free.{IsFreeFault}}
use Rattle.lab_commands.proofs.PlayRefusals.{refused_at}
use Rattle.lab_commands.proofs.free.FreePlayer.play.Goals as goal

pub play_free-requires-send-E : goal.play_free-requires-send-E
play_free-requires-send-E c κs = search (sendable, journal)

pub play_free-requires-2-send-E : goal.play_free-requires-2-send-E
play_free-requires-2-send-E c κs = search (sendable, journal)

pub play_free-requires-3-send-E : goal.play_free-requires-3-send-E
play_free-requires-3-send-E c κs = search (sendable, journal)

pub play_free-requires-4-send-E : goal.play_free-requires-4-send-E
play_free-requires-4-send-E c κs = search (sendable, journal)

pub returns-in-Locking-on_engine-clause-fault : goal.returns-in-Locking-on_engine-clause-fault
returns-in-Locking-on_engine-clause-fault g c = IfErr-weaker c.play_free.result _ _ (λ fault is. inl is)
    (refused_at (λ l s. IsFreeFault l s (given_lines c.args.script.now.lines)) c.play_free.result c.args.self.now.level _ c.args.script.now.setup _
    (sym c.in-Locking-on_engine.is) (c.on_engine-new-engine.ensures.setup ∙ c.in_ok-setup.ensures) c.play_free.ensures.fault)

pub returns-in-Committed-on_engine-clause-fault : goal.returns-in-Committed-on_engine-clause-fault
returns-in-Committed-on_engine-clause-fault g c = IfErr-weaker c.play_free-2.result _ _ (λ fault is. inl is)
    (refused_at (λ l s. IsFreeFault l s (given_lines c.args.script.now.lines)) c.play_free-2.result c.args.self.now.level _ c.args.script.now.setup _
    (sym c.in-Committed-on_engine.is) (c.on_engine-new-engine-2.ensures.setup ∙ c.in_ok-setup.ensures) c.play_free-2.ensures.fault)

pub returns-in-Snapshot-on_engine-clause-fault : goal.returns-in-Snapshot-on_engine-clause-fault
returns-in-Snapshot-on_engine-clause-fault g c = IfErr-weaker c.play_free-3.result _ _ (λ fault is. inl is)
    (refused_at (λ l s. IsFreeFault l s (given_lines c.args.script.now.lines)) c.play_free-3.result c.args.self.now.level _ c.args.script.now.setup _
    (sym c.in-Snapshot-on_engine.is) (c.on_engine-new-engine-3.ensures.setup ∙ c.in_ok-setup.ensures) c.play_free-3.ensures.fault)

pub returns-in-Optimistic-on_engine-clause-fault : goal.returns-in-Optimistic-on_engine-clause-fault
returns-in-Optimistic-on_engine-clause-fault g c = IfErr-weaker c.play_free-4.result _ _ (λ fault is. inl is)
    (refused_at (λ l s. IsFreeFault l s (given_lines c.args.script.now.lines)) c.play_free-4.result c.args.self.now.level _ c.args.script.now.setup _
    (sym c.in-Optimistic-on_engine.is) (c.on_engine-new-engine-4.ensures.setup ∙ c.in_ok-setup.ensures) c.play_free-4.ensures.fault)
