use Rattle.std.proofs.Common.{◌≡◌, ◌<◌, drop, length, ap, arith}
use Rattle.lab_picture.{specs.Lines.{lines_from}, proofs.LineSteps.{none_at, counted}}
use Rattle.lab_picture.proofs.lines.count_lines.Goals as goal

pub returns-then-rest-eq0-clause-value : goal.returns-then-rest-eq0-clause-value
returns-then-rest-eq0-clause-value c =
    let none : length c.loop-byte.rest.now ≡ 0 = omega (arith, c.if-rest-eq0.true) in
    let left : length (lines_from c.args.width (drop c.loop-byte._byte-index c.args.text.now) c.loop-byte.rest.now) ≡ 0 =
    ap length (none_at c.args.width (drop c.loop-byte._byte-index c.args.text.now) c.loop-byte.rest.now none) in
    omega (arith, left, c.loop-byte.invariant.same)

pub loop-byte-preserved : goal.loop-byte-preserved
loop-byte-preserved c =
    let l : c.loop-byte._byte-index < length c.args.text.now = omega (arith, c.loop-byte-test.true) in
    let some : length c.loop-byte.rest.now ≡ 0 → ⊥ = λ none. omega (arith, none, c.if-rest-eq0.false) in
    record {
      same =
          counted c.args.width c.args.text.now c.loop-byte._byte-index c.loop-byte.rest.now c.divided.result.1.now c.loop-byte.count _ l some c.divided.ensures.rest
          c.loop-byte.invariant.same;
      within = omega (arith, c.loop-byte.invariant.within);
    }
