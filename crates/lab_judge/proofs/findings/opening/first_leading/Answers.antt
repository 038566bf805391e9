use Rattle.std.proofs.{Common.{◌*◌, arith, inl, inr}, lemmas.{Bool.{cases_lt}, Option.{slice_get_within}}}
use Rattle.lab_judge.proofs.findings.opening.first_leading.Goals as goal

pub loop-block-preserved : goal.loop-block-preserved
loop-block-preserved c k less back t = elim (cases_lt k (64 * c.loop-block.block)) [
  | inl before ↦ c.loop-block.invariant k before back t
  | inr past ↦
      let within = slice_get_within _ k _ t.to in
      c.first_between.ensures.none c.in_default.is k past (omega (arith, less, within, c.min-beyond.ensures, c.len-count.ensures.count)) back t
]

pub returns-clause-none : goal.returns-clause-none
returns-clause-none c = λ _ to back t.
    let within = slice_get_within _ to _ t.to in
    c.loop-block.invariant to (omega (arith, within, c.loop-block-test.false, c.len-count.ensures.count)) back t

pub returns-in-Some-clause-least : goal.returns-in-Some-clause-least
returns-in-Some-clause-least c k less back t = elim (cases_lt k (64 * c.loop-block.block)) [ inl before ↦ c.loop-block.invariant k before back t | inr past ↦ c.in-Some.ensures.least k past less back t ]
