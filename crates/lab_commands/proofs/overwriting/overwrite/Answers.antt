use Rattle.std.proofs.{Common.{◌∙◌, ap}, lemmas.Result.{on_ok_weaker}}
use Rattle.lab_commands.{specs.Overwriting.{put_each}, proofs.PutInTurn.{overwritten_in_turn}}
use Rattle.lab_commands.proofs.overwriting.overwrite.Goals as goal

pub returns : goal.returns
returns c =
    on_ok_weaker c.put_each.result (λ put. put ∙ ap (λ states. put_each states c.args.rows.now) c.entries.ensures ∙ overwritten_in_turn c.args.writes.now c.args.rows.now) c.put_each.ensures
