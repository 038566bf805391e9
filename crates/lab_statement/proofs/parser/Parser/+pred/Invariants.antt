use Rattle.lab_statement.proofs.{Common.{◌+◌, ◌*◌, ◌≤◌, length, term_read, conj_read, pred_read}, StoppedLoops.{ReadsOn}}
use Rattle.lab_table.specs.Predicate as predicate
use Rattle.lab_table.specs.declared.word.Word.TheVariants as word
use Rattle.lab_statement.specs.declared.token.Token.TheVariants as token
use Rattle.lab_statement.proofs.parser.Parser.+pred.Given as goal

abbrev pub decreases-conj : goal.decreases-conj
decreases-conj l = 3 * l.depth + 1

abbrev pub decreases-pred : goal.decreases-pred
decreases-pred l = 3 * l.depth + 2

abbrev pub decreases-term : goal.decreases-term
decreases-term l = 3 * l.depth

abbrev pub invariant-conj-loop-alloc : goal.invariant-conj-loop-alloc
invariant-conj-loop-alloc l = record {
  shorter : length l.self ≤ length l.fn.self;
  so_far : ReadsOn (term_read l.fn.depth) (token.Word word.And) predicate.And l.pred l.self (conj_read l.fn.depth l.fn.self);
}

abbrev pub decreases-conj-loop-alloc : goal.decreases-conj-loop-alloc
decreases-conj-loop-alloc l = length l.self

abbrev pub invariant-pred-loop-alloc : goal.invariant-pred-loop-alloc
invariant-pred-loop-alloc l = record {
  shorter : length l.self ≤ length l.fn.self;
  so_far : ReadsOn (conj_read l.fn.depth) (token.Word word.Or) predicate.Or l.pred l.self (pred_read l.fn.depth l.fn.self);
}

abbrev pub decreases-pred-loop-alloc : goal.decreases-pred-loop-alloc
decreases-pred-loop-alloc l = length l.self
