use Rattle.std.{proofs.{Common.{◌==◌, length, sym, ap, ◌∙◌, subst, arith}, lemmas.{List.{Filters.{dedup_is}, Kept.{Contains-dedup_nat, Contains-from_dedup}, Sorted.{Contains-permutation, IsPermutation-sym}}, Map.Keys.{IsStrictlyIncreasing-dedup}}}, specs.{Prelude.{Contains}, List.Sorted.{IsStrictlyIncreasing}}}
use Rattle.lab_deps.proofs.CommittedNumbers.{numbers_that, few_numbers, few_left, is_committed, each_once}
use Rattle.lab_deps.proofs.nodes.committed_numbers.Goals as goal

pub returns : goal.returns
returns c =
    let h = c.args.history.now in
    let is = dedup_is (λ x y. x == y) _ _ c.dedup.ensures.filtered in
    let moved = c.sort_unstable.ensures.permutation in
    let rising = subst IsStrictlyIncreasing (sym is) (IsStrictlyIncreasing-dedup _ c.sort_unstable.ensures.sorted) in
    let kept = c.in_ok-numbers.ensures ∙ ap (numbers_that (is_committed h)) (c.as_slice-txns.ensures ∙ c.txns.ensures.value) in
    let fewer = few_left _ _ c.dedup.new.self.items moved is in
    record {
      each_once = each_once h c.dedup.new.self.items c.in_ok-numbers.numbers.items rising kept
          (λ n there. Contains-permutation _ _ n (IsPermutation-sym _ _ moved) (Contains-from_dedup _ _ n (subst (λ l. Contains l n) is there)))
          (λ n there. subst (λ l. Contains l n) (sym is) (Contains-dedup_nat _ n (Contains-permutation _ _ n moved there)));
      rising = rising;
      few = omega (arith, fewer, ap length kept, few_numbers (is_committed h) h.txns, c.txns.ensures.keeps.transactions);
    }
