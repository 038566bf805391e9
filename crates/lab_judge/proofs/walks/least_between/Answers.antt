use Rattle.std.{proofs.{Common.{sym, ◌∙◌}, lemmas.{Option.{same_Some}, Result.{IfOk-weaker}}}}
use Rattle.lab_deps.specs.KindSets.{among}
use Rattle.lab_judge.proofs.Nets.{least_tie}
use Rattle.lab_judge.proofs.walks.least_between.Goals as goal

pub returns-clause-found : goal.returns-clause-found
returns-clause-found c =
    least_tie (among c.args.kinds) c.args.net.now c.args.from c.args.to c.number.result c.number-2.result c.number.ensures.number c.number-2.ensures.number _ c.least.result
    c.least.ensures.found c.least.ensures.from c.least.ensures.to c.least.ensures.kind c.least.ensures.least

pub returns-clause-none : goal.returns-clause-none
returns-clause-none c =
    IfOk-weaker c.least.result _ _ (λ found none is t. none is t.edge t.is_one (same_Some _ _ (sym t.from ∙ c.number.ensures.number)) (same_Some _ _ (sym t.to ∙ c.number-2.ensures.number)) t.kind)
    c.least.ensures.none
