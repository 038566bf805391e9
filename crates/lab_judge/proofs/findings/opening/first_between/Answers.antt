use Rattle.std.proofs.{Common.{◌≡◌, ◌<◌, length, subst, arith, inl, inr}, lemmas.{Bool.{both_ways, cases_lt}}}
use Rattle.lab_order.specs.Path.{Reaches}
use Rattle.lab_deps.specs.KindSets.{among}
use Rattle.lab_judge.{specs.Graphs.{Tie}, proofs.{Growing.{meets_tie}, findings.opening.first_between.Goals.{else-meets-via-then-meets+else-lead, else-meets-via-else-meets}}}
use Rattle.lab_judge.proofs.findings.opening.first_between.Goals as goal

pub returns-then-lead-clause-found : goal.returns-then-lead-clause-found
returns-then-lead-clause-found c =
    let to = c.loop-to.to in
    let inside : to < length c.args.net.now.numbers = omega (arith, c.loop-to-test.true, c.requires.beyond) in
    let tied = meets_tie c.args.net.now c.args.from to c.requires.from inside c.kinds_at-between.result c.kinds_at-between.ensures.kinds c.args.kinds c.meets.result c.meets.ensures in
    (tied.0 c.if-meets.true, c.lead.ensures.0 c.if-lead.true)

pub loop-to-preserved : goal.loop-to-preserved
loop-to-preserved c k from less back t =
    let to = c.loop-to.to in
    let inside : to < length c.args.net.now.numbers = omega (arith, c.loop-to-test.true, c.requires.beyond) in
    let tied = meets_tie c.args.net.now c.args.from to c.requires.from inside c.kinds_at-between.result c.kinds_at-between.ensures.kinds c.args.kinds c.meets.result c.meets.ensures in
    let here : Reaches c.args.ways.now to c.args.from → ¬ Tie (among c.args.kinds) c.args.net.now c.args.from to =
    elim c.else-meets.branch [
      | else-meets-via-then-meets+else-lead w ↦ λ on _. both_ways w.lead.result w.if-lead.false (w.lead.ensures.1 on)
      | else-meets-via-else-meets w ↦ λ _ t. both_ways c.meets.result w.if-meets.false (tied.1 t)
    ] in
    elim (cases_lt k to) [
      | inl before ↦ c.loop-to.invariant k from before back t
      | inr past ↦
          let same : k ≡ to = omega (arith, less, past) in
          here (subst (λ n. Reaches c.args.ways.now n c.args.from) same back) (subst (Tie (among c.args.kinds) c.args.net.now c.args.from) same t)
    ]

pub returns-clause-none : goal.returns-clause-none
returns-clause-none c = λ _ k from within back t. c.loop-to.invariant k from (omega (arith, within, c.loop-to-test.false)) back t

pub returns-then-is_bare-clause-none : goal.returns-then-is_bare-clause-none
returns-then-is_bare-clause-none c = λ _ k from within _ t. c.is_bare.ensures c.if-is_bare.true k t.edge from within t.is_one t.from t.to
