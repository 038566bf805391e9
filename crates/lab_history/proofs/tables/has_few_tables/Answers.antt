use Rattle.std.proofs.Common.{is_some, ap, ◌∙◌}
use Rattle.lab_history.{specs.RunningTables.{all_within}, proofs.CountedTables.{few_if_met, seen}}
use Rattle.lab_history.proofs.tables.has_few_tables.Goals as goal

pub returns : goal.returns
returns c = c.is_some.ensures ∙ seen (λ t. t.names) c.with_all.result ∙ ap is_some (c.with_all.ensures ∙ ap (λ met. all_within met c.args.parts.now) c.new.ensures) ∙ few_if_met c.args.parts.now
