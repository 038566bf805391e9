use Rattle.lab_statement.proofs.{Common.{[], ◌∷◌, sym, arith, err_from_is_err_and, number_read, numbers_read, one_more}, StoppedLoops.{starts, goes_on, next_stops, ends}}
use Rattle.lab_statement.specs.declared.token.Token.TheVariants as token
use Rattle.lab_statement.proofs.parser.Parser.numbers.Goals as goal

pub loop-self-init : goal.loop-self-init
unfolding numbers_read
loop-self-init c = record { shorter = c.in_ok-first.ensures.shorter; so_far = rw (c.in_ok-push.ensures.items, c.new-numbers.ensures.items) (starts (λ z. z ∷ []) number_read token.Comma one_more c.in_ok-first.ensures.reads) }

pub loop-self-preserved : goal.loop-self-preserved
loop-self-preserved c = record {
  shorter = omega (arith, c.loop-self-test.ensures.shorter, c.in_ok-number.ensures.shorter, c.loop-self.invariant.shorter);
  so_far = goes_on c.loop-self.invariant.so_far c.loop-self-test.ensures.gives c.loop-self-test.ensures.shorter c.in_ok-number.ensures.reads c.in_ok-number.ensures.shorter (sym c.in_ok-push-2.ensures.items);
}

pub returns-in_err-number-clause-reads : goal.returns-in_err-number-clause-reads
returns-in_err-number-clause-reads c =
    let p = err_from_is_err_and c.from_residual-in_err-number.result c.from_residual-in_err-number.ensures.1 in
    rw (p.1, p.2) (next_stops c.in_err-number.field-0.0 c.number-in-loop-self.new.self c.loop-self.invariant.so_far c.loop-self-test.ensures.gives c.loop-self-test.ensures.shorter c.in_err-number.ensures.reads)

pub returns-clause-reads : goal.returns-clause-reads
returns-clause-reads c = rw c.loop-self-test.ensures.gives.1 (ends c.loop-self.invariant.so_far c.loop-self-test.ensures.gives.0)
