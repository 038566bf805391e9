use Rattle.std.proofs.Common.{sym, refl, ◌∙◌, ap, ◌||◌}
use Rattle.lab_engine.proofs.Common.{both_ways, has, none_of}
use Rattle.lab_locking.{specs.Reads.{reads_of_untouched, reads_of_written, reads_row}, proofs.{RowReaders.{named_reads, all_reads}, Runners.{none_reads, no_reader, with_known}}}
use Rattle.lab_locking.proofs.reads.with_readers_in_way.Goals as goal

pub returns-then-is_read_only : goal.returns-then-is_read_only
returns-then-is_read_only c = λ past txn asks n. none_reads past txn c.args.asker.now c.args.statement.now n (has c.args.known n) (sym c.is_read_only.ensures ∙ c.if-is_read_only.true)

pub returns-then-is_none : goal.returns-then-is_none
returns-then-is_none c = λ past txn asks n.
    no_reader past txn c.args.asker.now asks c.args.statement.now c.args.known n
    (sym (c.other_runners.ensures n) ∙ c.least.ensures.none (none_of c.least.result (both_ways _ c.if-is_none.ensures)) n)

pub returns-in-Some : goal.returns-in-Some
returns-in-Some c = λ past txn asks n.
    let asker = c.args.asker.now in
    with_known (has c.args.known n) (reads_row asker c.args.statement.now n c.in-Some.row) _ _ (c.with_seen_readers.ensures n)
    (named_reads past txn asker asks c.args.statement.now c.in-Some.row c.in-Some.ensures.only n)

pub returns-in-None : goal.returns-in-None
returns-in-None c = λ past txn asks n.
    let asker = c.args.asker.now in
    let s = c.args.statement.now in
    with_known (has c.args.known n) (reads_of_untouched asker s n || reads_of_written asker s n) _ _ (c.with_all_readers.ensures n)
    (all_reads past txn asker asks s (λ row names. c.in-None.ensures.named row names refl) n)
