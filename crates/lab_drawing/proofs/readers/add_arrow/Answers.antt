use Rattle.std.proofs.Common.{sym, ◌∙◌}
use Rattle.lab_drawing.proofs.GrownArrows.{added, unchanged}
use Rattle.lab_drawing.proofs.readers.add_arrow.Goals as goal

pub returns-in_ok-add : goal.returns-in_ok-add
returns-in_ok-add c = added c.args.ties.now c.args.nodes.now c.args.from c.args.to _ _ (sym c.leads.ensures ∙ c.if-leads.true) c.in_ok-add.ensures.nodes c.in_ok-add.ensures.arrows

pub returns-else-leads : goal.returns-else-leads
returns-else-leads c = unchanged c.args.ties.now c.args.nodes.now c.args.from c.args.to _ (sym c.leads.ensures ∙ c.if-leads.false)
