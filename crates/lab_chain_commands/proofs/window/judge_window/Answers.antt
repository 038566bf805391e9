use Rattle.std.proofs.{Common.{refl}, lemmas.Result.{IfOk-weaker}}
use Rattle.lab_chain_commands.proofs.PartLists.{told_window}
use Rattle.lab_chain_commands.proofs.window.judge_window.Goals as goal

pub returns : goal.returns
returns g c = IfOk-weaker c.tell_parts.result _ _ (told_window c.args.asked _ c.args.inputs.now _ refl c.in_ok-parts.ensures) c.tell_parts.ensures
