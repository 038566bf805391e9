use Rattle.lab_engine.proofs.Common.{ap, is_some, Run, sym, true≢false, ◌∙◌}
use Rattle.lab_engine.proofs.decision.waiting_command.Goals as goal

pub unreachable-requires : goal.unreachable-requires
unreachable-requires c = true≢false (sym c.requires.3 ∙ sym (ap is_some (c.in_default.ensures _ _ c.requires.2)))

pub returns : goal.returns
returns c level past d = (_, sym (c.in-Some.ensures level past d), ap Run c.in_ok-copy.ensures)
