use Rattle.lab_engine.proofs.{Common.{ap, both_ways, is_some, IsSome, pending_in, pending_kept, rules, sym, version_by, ◌∙◌}, Choosing.{others_are}, OtherWriters.{pending_wrote}}
use Rattle.lab_engine.proofs.asker.Asker.row_writers.Goals as goal

pub returns-in-Some : goal.returns-in-Some
returns-in-Some c = λ level past txn asks.
    let asker = c.args.self.now in
    let row = c.args.row in
    others_are past asker (λ other _. is_some (pending_in asker.situation.now.rows row other)) (λ holder. IsSome (version_by holder row)) c.others_that.result asks.situation
    (λ other holder _ is _. pending_wrote past asker.situation.now row other holder asks.situation is)
    (c.others_that.ensures _ (λ other running b post. search rules ∙ ap (λ o. is_some (pending_kept o other)) c.in-Some.ensures))

pub returns-in-None : goal.returns-in-None
returns-in-None c = λ level past txn asks other. (
  (λ there. absurd (both_ways _ (c.none.ensures other) there)),
  (λ o.
      let some = (pending_wrote past c.args.self.now.situation.now c.args.row other o.0 asks.situation o.2).1 o.3 in
      absurd (both_ways _ (ap (λ k. is_some (pending_kept k other)) (sym c.in-None.ensures)) some)),
)
