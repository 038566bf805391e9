use Rattle.std.proofs.Common.{◌∙◌, sym, ap, rules}
use Rattle.lab_engine.{proofs.{Common.{both_ways}, Choosing.{others_are}}, specs.Rules.{HoldsMatch}}
use Rattle.lab_locking.{specs.Matches.{matches_kept, matches_at}, proofs.HeldMatches.{named_is, holds_none}}
use Rattle.lab_locking.proofs.matches.named_holders.Goals as goal

pub returns-in-Some : goal.returns-in-Some
returns-in-Some c = λ past txn asks.
    let asker = c.args.asker.now in
    let s = c.args.statement.now in
    others_are past asker (λ other _. matches_at asker s other c.args.row) (HoldsMatch asker.setup.now past s) c.others_that.result asks.situation
    (λ other holder _ is _. named_is past txn asker asks s other holder is c.args.row c.requires)
    (c.others_that.ensures _ (λ other running b post. search rules ∙ ap (λ o. matches_kept asker s c.args.row o other) c.in-Some.ensures))

pub returns-in-None : goal.returns-in-None
returns-in-None c = λ past txn asks other. (
  (λ any. absurd (both_ways _ (c.none.ensures other) any)),
  (λ is. absurd (holds_none past txn c.args.asker.now asks c.args.statement.now c.args.row c.requires (sym c.in-None.ensures) other is)),
)
