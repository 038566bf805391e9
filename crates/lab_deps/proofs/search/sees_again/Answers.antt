use Rattle.std.{proofs.Common.{ap}, specs.Option.{option_copied}}
use Rattle.lab_deps.proofs.search.sees_again.Goals as goal

pub returns-then-fine : goal.returns-then-fine
returns-then-fine c = λ t. (c.if-fine.true, (c.in-Some.before.now, ap option_copied c.in-Some.is, c.equals.ensures.0 t))
