use Rattle.lab_session.proofs.Playing.{counted_one}
use Rattle.lab_session.proofs.scripted.count.Goals as goal

pub returns-clause-counts : goal.returns-clause-counts
returns-clause-counts c = counted_one c.args.counts.now c.set.new.self c.args.session c.get.result c.get.ensures.value c.set.ensures.each
