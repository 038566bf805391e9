use Rattle.lab_engine.proofs.{Common.{both_ways, false, HoldsWrite, IsSome, IsTrue, seen, sym, version_by, would_write, ◌∙◌, ◌≡◌}, Choosing.{others_same}, OtherWriters.{unwritten_free, named_holds}, SeenRows.{writes_is}}
use Rattle.lab_engine.proofs.asker.Asker.writers_in_way.Goals as goal

pub returns-then-would_write : goal.returns-then-would_write
returns-then-would_write c = λ level past txn asks.
    let s = c.args.statement.now in
    let asker = c.args.self.now in
    let row = c.in-Some.row in
    let writes : IsTrue (would_write s row (seen level asker.setup.now past txn row).state) =
    sym (writes_is level past txn asker asks s row) ∙ sym c.would_write.ensures ∙ c.if-would_write.true in
    others_same past asker (λ holder. IsSome (version_by holder row)) (HoldsWrite level asker.setup.now past txn s) c.row_writers.result
    (named_holds level asker.setup.now past txn s row c.in-Some.ensures.only writes) (c.row_writers.ensures level past txn asks)

pub returns-else-would_write : goal.returns-else-would_write
returns-else-would_write c = λ level past txn asks other.
    let s = c.args.statement.now in
    let asker = c.args.self.now in
    let row = c.in-Some.row in
    let never : would_write s row (seen level asker.setup.now past txn row).state ≡ false =
    sym (writes_is level past txn asker asks s row) ∙ sym c.would_write.ensures ∙ c.if-would_write.false in (
      (λ there. absurd (both_ways _ (c.none-else-would_write.ensures other) there)),
      (λ o. absurd (unwritten_free level asker.setup.now past txn s row c.in-Some.ensures.only never o.0 o.3)),
    )
