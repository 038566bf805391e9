use Rattle.lab_judge.proofs.Numbers.{at_its_place}
use Rattle.lab_judge.proofs.placing.number_at.Goals as goal

pub returns-clause-node : goal.returns-clause-node
returns-clause-node c = at_its_place c.args.net.now.numbers c.number.ensures.rising c.args.node c.number.result c.number.ensures.number
