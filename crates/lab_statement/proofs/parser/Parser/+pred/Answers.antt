use Rattle.lab_statement.proofs.{Common.{sym, arith, err_from_is_err_and, term_read, conj_read, pred_read}, StoppedLoops.{starts, goes_on, next_stops, ends}}
use Rattle.lab_table.specs.Predicate as predicate
use Rattle.lab_table.specs.declared.word.Word.TheVariants as word
use Rattle.lab_statement.specs.declared.token.Token.TheVariants as token
use Rattle.lab_statement.proofs.parser.Parser.+pred.Goals as goal

pub conj-loop-alloc-init : goal.conj-loop-alloc-init
unfolding conj_read
conj-loop-alloc-init t c = record { shorter = c.in_ok-pred.ensures.shorter; so_far = starts (λ p. p) (term_read c.args.depth) (token.Word word.And) predicate.And c.in_ok-pred.ensures.reads }

pub conj-loop-alloc-preserved : goal.conj-loop-alloc-preserved
conj-loop-alloc-preserved t c = record {
  shorter = omega (arith, c.loop-alloc-test.ensures.shorter, c.in_ok-right.ensures.shorter, c.loop-alloc.invariant.shorter);
  so_far = goes_on c.loop-alloc.invariant.so_far c.loop-alloc-test.ensures.gives c.loop-alloc-test.ensures.shorter c.in_ok-right.ensures.reads c.in_ok-right.ensures.shorter (sym c.in_ok-pred-2.ensures);
}

pub conj-returns-in_err-right-clause-reads : goal.conj-returns-in_err-right-clause-reads
conj-returns-in_err-right-clause-reads t c =
    let p = err_from_is_err_and c.from_residual-in_err-right.result c.from_residual-in_err-right.ensures.1 in
    rw (p.1, p.2) (next_stops c.in_err-right.field-0.0 c.term-in-loop-alloc.new.self c.loop-alloc.invariant.so_far c.loop-alloc-test.ensures.gives c.loop-alloc-test.ensures.shorter c.in_err-right.ensures.reads)

pub conj-returns-clause-reads : goal.conj-returns-clause-reads
conj-returns-clause-reads t c = rw c.loop-alloc-test.ensures.gives.1 (ends c.loop-alloc.invariant.so_far c.loop-alloc-test.ensures.gives.0)

pub pred-loop-alloc-init : goal.pred-loop-alloc-init
unfolding pred_read
pred-loop-alloc-init t c = record { shorter = c.in_ok-pred.ensures.shorter; so_far = starts (λ p. p) (conj_read c.args.depth) (token.Word word.Or) predicate.Or c.in_ok-pred.ensures.reads }

pub pred-loop-alloc-preserved : goal.pred-loop-alloc-preserved
pred-loop-alloc-preserved t c = record {
  shorter = omega (arith, c.loop-alloc-test.ensures.shorter, c.in_ok-right.ensures.shorter, c.loop-alloc.invariant.shorter);
  so_far = goes_on c.loop-alloc.invariant.so_far c.loop-alloc-test.ensures.gives c.loop-alloc-test.ensures.shorter c.in_ok-right.ensures.reads c.in_ok-right.ensures.shorter (sym c.in_ok-pred-2.ensures);
}

pub pred-returns-in_err-right-clause-reads : goal.pred-returns-in_err-right-clause-reads
pred-returns-in_err-right-clause-reads t c =
    let p = err_from_is_err_and c.from_residual-in_err-right.result c.from_residual-in_err-right.ensures.1 in
    rw (p.1, p.2) (next_stops c.in_err-right.field-0.0 c.conj-in-loop-alloc.new.self c.loop-alloc.invariant.so_far c.loop-alloc-test.ensures.gives c.loop-alloc-test.ensures.shorter c.in_err-right.ensures.reads)

pub pred-returns-clause-reads : goal.pred-returns-clause-reads
pred-returns-clause-reads t c = rw c.loop-alloc-test.ensures.gives.1 (ends c.loop-alloc.invariant.so_far c.loop-alloc-test.ensures.gives.0)
