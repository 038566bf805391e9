use Rattle.std.proofs.{Common.{ap, inl, inr, arith, length}, lemmas.{Bool.{cases_lt}, List.{get_or_past}}}
use Rattle.lab_sets.proofs.Words.{bare}
use Rattle.lab_sets.proofs.number_set.NumberSet.clear.Goals as goal

pub returns-clause-none : goal.returns-clause-none
returns-clause-none c =
    let same = ap length c.self.view_is in
    bare c.words.self-inside.words.items (λ k.
    elim (cases_lt k (length c.args.self.now)) [
      | inl below ↦ c.words.invariant.1 k (omega (arith, c.words-test.false, c.len-k-end.ensures, same))
      | inr past ↦ get_or_past c.words.self-inside.words.items k 0 (omega (arith, c.words.invariant.0))
    ])
