use Rattle.std.proofs.Common.{sym, ◌∙◌}
use Rattle.lab_deps.proofs.OpsOfOneRow.{looks_only}
use Rattle.lab_deps.proofs.relevant_rows.only_row.Goals as goal

pub returns-then-lists_only : goal.returns-then-lists_only
returns-then-lists_only c = looks_only c.args.op.now c.in_ok-row.row c.in_ok-row.ensures.only (sym c.lists_only.ensures ∙ c.if-lists_only.true)
