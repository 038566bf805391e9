use Rattle.std.{proofs.{Common.{◌≡◌, ℕ, pos, Bool, false, List, get_or, set, ap, ◌∙◌, arith}, lemmas.{Int.{ints, to_z-of_z}, List.{length-set, Edits.{fill_by_more}}}}, specs.{Prelude.{int_rem}, Ordering.{int_eq}}}
use Rattle.lab_columns.proofs.comparisons.each_leaving.Goals as goal

pub loop-place-preserved : goal.loop-place-preserved
loop-place-preserved c =
    let answers : List Bool = c.loop-place.answers in
    let place : ℕ = c.loop-place.place in
    let each : ℕ → Bool = λ k. int_eq (int_rem (get_or c.args.numbers.now k (pos 0)) (pos c.args.modulus)) c.args.rest in
    let answer : c.leaves.result ≡ each place = search (arith, ints, to_z-of_z, c.leaves.ensures) in (
      length-set answers place c.leaves.result ∙ c.loop-place.invariant.0,
      λ k within. ap (λ x. get_or (set answers place x) k false) answer ∙ fill_by_more each answers place false (omega (arith, c.loop-place.invariant.0, c.loop-place-test.true)) c.loop-place.invariant.1 k within,
    )
