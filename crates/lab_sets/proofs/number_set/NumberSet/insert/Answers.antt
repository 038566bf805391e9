use Rattle.std.{proofs.{Common.{◌*◌, ◌/◌, ◌%◌, ◌^◌, ap, ◌∙◌, ◌<◌, ◌||◌, ◌==◌, arith, set, length}, lemmas.Grind.{get_or_default_zero}}, specs.Prelude.{bit_or}}
use Rattle.lab_sets.{specs.Sets.{has}, proofs.Words.{inserted}}
use Rattle.lab_sets.proofs.number_set.NumberSet.insert.Goals as goal

pub returns-clause-has : goal.returns-clause-has
returns-clause-has c =
    let same = ap length c.self.view_is in
    let within : c.args.number / 64 < length c.self.inside.words.items = omega (arith, c.requires, same) in
    let old = c.index_mut.ensures.value ∙ get_or_default_zero c.self.inside.words.items (c.args.number / 64) c.index_mut.result.now within in
    λ n. ap (λ word. has (set c.self.inside.words.items (c.args.number / 64) (bit_or word (1 * 2 ^ (c.args.number % 64) % 18446744073709551616))) n) old
    ∙ inserted c.self.inside.words.items c.args.number within n
    ∙ ap (λ words. n == c.args.number || has words n) c.self.view_is
