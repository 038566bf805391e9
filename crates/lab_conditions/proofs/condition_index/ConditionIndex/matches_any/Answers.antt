use Rattle.std.proofs.Common.{sym, ap, ◌∙◌}
use Rattle.std.specs.List.{list_any}
use Rattle.lab_table.specs.Statement.{matches}
use Rattle.lab_conditions.proofs.Ors.{any_none}
use Rattle.lab_conditions.proofs.condition_index.ConditionIndex.matches_any.Goals as goal

pub returns-in-None : goal.returns-in-None
returns-in-None c = sym (any_none c.args.statements.now) ∙ ap (λ state. list_any (λ s. matches s c.args.row state) c.args.statements.now) (sym c.in-None.is)
