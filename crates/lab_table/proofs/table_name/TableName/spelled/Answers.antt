use Rattle.std.{proofs.Common.{sym, ap, ◌∙◌}, specs.Prelude.{is_some}}
use Rattle.lab_table.proofs.Names.{spelled_held}
use Rattle.lab_table.proofs.table_name.TableName.spelled.Goals as goal

pub invariant_of-result : goal.invariant_of-result
invariant_of-result c = (spelled_held c.args.text.now c.lowered-bytes.result c.lowered-bytes.ensures c.if-has_name_form.ensures (ap is_some (sym c.named.ensures) ∙ sym c.if-is_some.ensures)).0

pub returns-then-has_name_form-clause-value : goal.returns-then-has_name_form-clause-value
returns-then-has_name_form-clause-value c = (spelled_held c.args.text.now c.lowered-bytes.result c.lowered-bytes.ensures c.if-has_name_form.ensures (ap is_some (sym c.named.ensures) ∙ sym c.if-is_some.ensures)).1
