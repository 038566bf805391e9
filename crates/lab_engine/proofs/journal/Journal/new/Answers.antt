use Rattle.lab_engine.proofs.Common.{AreWaits, both_ways, none_some, rules, []}
use Rattle.lab_engine.proofs.journal.Journal.new.Goals as goal

pub invariant_of-result : goal.invariant_of-result
invariant_of-result g c =
    let is = c.new-2.ensures.is g.R.Rules.kind in
    let waits : AreWaits g.R.Rules.kind c.args.setup [] c.new-2.result.waits = λ session other. ((λ w. absurd (both_ways _ (c.new-2.ensures.waits session other) w)), (λ w. none_some _ w.1)) in
    search rules
