use Rattle.std.proofs.Common.{rules}
use Rattle.lab_engine.{proofs.{Common.{list_any}, Choosing.{others_are}}, specs.Rules.{HoldsMatch}}
use Rattle.lab_locking.{specs.Matches.{matches_at}, proofs.HeldMatches.{some_tells}}
use Rattle.lab_locking.proofs.matches.all_holders.Goals as goal

pub returns : goal.returns
returns c = λ past txn asks.
    let asker = c.args.asker.now in
    let s = c.args.statement.now in
    others_are past asker (λ other running. list_any (matches_at asker s other) running.written.items) (HoldsMatch asker.setup.now past s) c.others_that.result asks.situation
    (some_tells past txn asker asks s) (c.others_that.ensures _ (λ other running b post. search rules))
