use Rattle.std.proofs.{Common.{◌≡◌, ◌+◌, pos, int_div, w64, of_z, to_z, sym, ◌∙◌, arith}, lemmas.Int.{ints}}
use Rattle.lab_conditions.proofs.Blocks.{between}
use Rattle.lab_conditions.proofs.bounds.common_block.Goals as goal

pub returns-then-number-other : goal.returns-then-number-other
returns-then-number-other c = λ id value above below.
    let size = 1 + c.args.last in
    let low : to_z w64 (of_z w64 c.args.low) ≡ c.args.low = omega (arith, ints) in
    let high : to_z w64 (of_z w64 c.args.high) ≡ c.args.high = omega (arith, ints) in
    let number : to_z w64 (of_z w64 c.quotient-number.result) ≡ c.quotient-number.result = omega (arith, ints) in
    let first : c.quotient-number.result ≡ int_div c.args.low (pos size) = cc (c.quotient-number.ensures, low) in
    let other : c.quotient-other.result ≡ int_div c.args.high (pos size) = cc (c.quotient-other.ensures, high) in
    let same : c.quotient-number.result ≡ c.quotient-other.result = omega (arith, ints) in
    between size c.args.low value c.args.high (omega arith) above below (sym first ∙ same ∙ other) ∙ sym first ∙ sym number
