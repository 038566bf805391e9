use Rattle.std.proofs.{Common.{◌≡◌, subst, arith, inl, inr}, lemmas.{Bool.{cases_lt}, Option.{slice_get_within}}}
use Rattle.lab_order.specs.Path.{Reaches}
use Rattle.lab_deps.specs.KindSets.{among}
use Rattle.lab_judge.specs.Graphs.{Tie}
use Rattle.lab_judge.proofs.findings.opening.first_opening.Goals as goal

pub loop-from-preserved : goal.loop-from-preserved
loop-from-preserved c p q less back t = elim (cases_lt p c.loop-from.from) [
  | inl before ↦ c.loop-from.invariant p q before back t
  | inr past ↦
      let same : p ≡ c.loop-from.from = omega (arith, less, past) in
      c.first_leading.ensures.none c.in_default.is q (subst (Reaches c.args.ways.now q) same back) (subst (λ n. Tie (among c.args.opening) c.args.net.now n q) same t)
]

pub returns-clause-none : goal.returns-clause-none
returns-clause-none c = λ _ p q back t.
    let within = slice_get_within _ p _ t.from in
    c.loop-from.invariant p q (omega (arith, within, c.loop-from-test.false, c.len-from-end.ensures.count)) back t
