use Rattle.std.proofs.Common.{sym, ◌∙◌}
use Rattle.lab_session.specs.Play.{given_lines, IsScriptedFault}
use Rattle.lab_commands.proofs.PlayRefusals.{refused_at}
use Rattle.lab_commands.proofs.scripted.ScriptedPlayer.play.Goals as goal

pub returns-in-Locking-on_engine-clause-fault : goal.returns-in-Locking-on_engine-clause-fault
returns-in-Locking-on_engine-clause-fault c =
    refused_at (λ l s. IsScriptedFault l s (given_lines c.args.script.now.lines)) c.play_script.result c.args.self.now.level _ c.args.script.now.setup _
    (sym c.in-Locking-on_engine.is) (c.on_engine-new-engine.ensures.setup ∙ c.in_ok-setup.ensures) c.play_script.ensures.fault

pub returns-in-Committed-on_engine-clause-fault : goal.returns-in-Committed-on_engine-clause-fault
returns-in-Committed-on_engine-clause-fault c =
    refused_at (λ l s. IsScriptedFault l s (given_lines c.args.script.now.lines)) c.play_script-2.result c.args.self.now.level _ c.args.script.now.setup _
    (sym c.in-Committed-on_engine.is) (c.on_engine-new-engine-2.ensures.setup ∙ c.in_ok-setup.ensures) c.play_script-2.ensures.fault

pub returns-in-Snapshot-on_engine-clause-fault : goal.returns-in-Snapshot-on_engine-clause-fault
returns-in-Snapshot-on_engine-clause-fault c =
    refused_at (λ l s. IsScriptedFault l s (given_lines c.args.script.now.lines)) c.play_script-3.result c.args.self.now.level _ c.args.script.now.setup _
    (sym c.in-Snapshot-on_engine.is) (c.on_engine-new-engine-3.ensures.setup ∙ c.in_ok-setup.ensures) c.play_script-3.ensures.fault

pub returns-in-Optimistic-on_engine-clause-fault : goal.returns-in-Optimistic-on_engine-clause-fault
returns-in-Optimistic-on_engine-clause-fault c =
    refused_at (λ l s. IsScriptedFault l s (given_lines c.args.script.now.lines)) c.play_script-4.result c.args.self.now.level _ c.args.script.now.setup _
    (sym c.in-Optimistic-on_engine.is) (c.on_engine-new-engine-4.ensures.setup ∙ c.in_ok-setup.ensures) c.play_script-4.ensures.fault
