use Rattle.std.proofs.Common.{sym, ◌∙◌}
use Rattle.lab_history.proofs.RangeEnds.{ends_suffice}
use Rattle.lab_history.proofs.id_range.IdRanges.have_ends.Goals as goal

pub returns-in-Some-last : goal.returns-in-Some-last
returns-in-Some-last g c = λ t.
    ends_suffice c.args.self.now.ranges c.args.entries.now c.in-Some.first.now c.in-Some-last.last.now c.requires (sym c.in-Some.ensures.value) (sym c.in-Some-last.ensures.value) (sym c.has_ends.ensures ∙ t)
