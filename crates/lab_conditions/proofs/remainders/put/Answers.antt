use Rattle.lab_conditions.proofs.{Sets.{any_put}, Pairs.{pair_eq, same_pair}}
use Rattle.lab_conditions.proofs.remainders.put.Goals as goal

pub returns-clause-ok : goal.returns-clause-ok
returns-clause-ok c = λ test. any_put test pair_eq same_pair c.args.pair c.args.pairs.now.keys c.insert.new.self.keys c.in_ok-insert.field-0 c.in_ok-insert.ensures.added c.in_ok-insert.ensures.keys
