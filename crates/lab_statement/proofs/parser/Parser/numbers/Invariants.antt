use Rattle.lab_statement.proofs.{Common.{◌≤◌, length, one_more, number_read, numbers_read}, StoppedLoops.{ReadsOn}}
use Rattle.lab_statement.specs.declared.token.Token.TheVariants as token
use Rattle.lab_statement.proofs.parser.Parser.numbers.Given as goal

abbrev pub invariant-loop-self : goal.invariant-loop-self
invariant-loop-self l = record {
  shorter : length l.self ≤ length l.fn.self;
  so_far : ReadsOn number_read token.Comma one_more l.numbers.items l.self (numbers_read l.fn.self);
}

abbrev pub decreases-loop-self : goal.decreases-loop-self
decreases-loop-self l = length l.self
