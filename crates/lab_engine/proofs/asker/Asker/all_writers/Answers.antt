use Rattle.lab_engine.proofs.{Common.{HoldsWrite, list_any, rules, seen_in, would_write}, Choosing.{others_are}, OtherWriters.{written_holds}, SeenRows.{writes_is}}
use Rattle.lab_engine.proofs.asker.Asker.all_writers.Goals as goal

pub returns : goal.returns
returns c = λ level past txn asks.
    let s = c.args.statement.now in
    let asker = c.args.self.now in
    others_are past asker (λ _ running. list_any (λ row. would_write s row (seen_in asker row).state) running.written.items) (HoldsWrite level asker.setup.now past txn s)
    c.others_that.result asks.situation
    (λ other holder kept is agrees. written_holds level asker.setup.now past txn s holder kept (λ row. would_write s row (seen_in asker row).state) agrees (writes_is level past txn asker asks s))
    (c.others_that.ensures _ (λ other running b post. search rules))
