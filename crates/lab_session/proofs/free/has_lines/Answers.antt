use Rattle.std.proofs.Common.{rules, ◌≡◌}
use Rattle.lab_session.proofs.FreePlays.{lined}
use Rattle.lab_session.proofs.free.has_lines.Goals as goal

pub returns-then-eq-clause-some : goal.returns-then-eq-clause-some
returns-then-eq-clause-some c =
    let own : c.line-item.result.session ≡ c.args.session = search rules in
    λ is. lined c.args.session c.args.lines.now c.loop-line.line-index c.line-item.result c.loop-line-test.true c.line-item.is own
