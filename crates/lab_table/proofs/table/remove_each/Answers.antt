use Rattle.std.{proofs.{Common.{rules}, lemmas.Fn.{filter_same}}, specs.Prelude.{not}}
use Rattle.lab_table.specs.Statement.{picks}
use Rattle.lab_table.proofs.table.remove_each.Goals as goal

pub returns : goal.returns
returns c = filter_same _ (λ row. not (picks c.args.table c.args.pred.now row.0 row.1)) _ (λ x b f r. (search rules, search rules)) _ _ c.retain.ensures.filtered
