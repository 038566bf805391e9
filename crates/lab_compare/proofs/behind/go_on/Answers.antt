use Rattle.std.proofs.{Common.{◌∙◌}, lemmas.Result.{on_ok_weaker}}
use Rattle.lab_compare.proofs.Installs.{gone_on}
use Rattle.lab_compare.proofs.behind.go_on.Goals as goal

pub returns : goal.returns
returns c =
    on_ok_weaker c.put_each.result
    (λ put. put ∙ gone_on c.args.commits.now c.args.taken c.args.count _ _ _ _ _ c.args.rows.now c.requires.ahead c.as_slice-installs.ensures c.min.ensures c.split_at.ensures.front c.min-2.ensures c.split_at-2.ensures.back c.requires.stands)
    c.put_each.ensures
