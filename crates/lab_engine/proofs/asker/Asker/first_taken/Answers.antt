use Rattle.lab_engine.{proofs.{Common.{chain_in, first_since, subst}, TakenRows.{found_says}}, specs.Taken.{IsLeastTaken}}
use Rattle.lab_engine.proofs.asker.Asker.first_taken.Goals as goal

pub returns : goal.returns
returns c = λ level past txn asks.
    let asker = c.args.self.now in
    found_says level past txn asker c.first_conflict.result asks
    (subst (λ rows. IsLeastTaken (λ row. first_since asker.running.now.before (chain_in asker.situation.now.rows row)) rows c.first_conflict.result) c.deref.ensures.value c.first_conflict.ensures)
