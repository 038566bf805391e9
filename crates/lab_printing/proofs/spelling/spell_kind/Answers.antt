use Rattle.lab_printing.proofs.{Common.{◌++◌, ap, codes, printed_kind, printed_row, printed_where}, PutTexts.{puts_rest}}
use Rattle.lab_printing.proofs.spelling.spell_kind.Goals as goal

pub returns-then-spell_both-clause-text : goal.returns-then-spell_both-clause-text
returns-then-spell_both-clause-text g c =
    puts_rest g.S.Sink.kept g.S.Sink.limit c.spell_where.result _ (codes "select * from " ++ c.args.table.now) (printed_where c.in-Select.pred) _ _ _ c.if-spell_both.ensures c.spell_where.ensures.text
    (ap (printed_kind c.args.table.now) c.in-Select.is)

pub returns-then-spell_three-2-clause-text : goal.returns-then-spell_three-2-clause-text
returns-then-spell_three-2-clause-text g c =
    puts_rest g.S.Sink.kept g.S.Sink.limit c.spell_row.result _ (codes "insert into " ++ c.args.table.now ++ codes " (id, value) values ") (printed_row c.in-Insert.id c.in-Insert.value) _ _ _
    c.if-spell_three-2.ensures c.spell_row.ensures.text (ap (printed_kind c.args.table.now) c.in-Insert.is)

pub returns-then-spell_both-2-clause-text : goal.returns-then-spell_both-2-clause-text
returns-then-spell_both-2-clause-text g c =
    puts_rest g.S.Sink.kept g.S.Sink.limit c.spell_where-then-spell_both-2.result _ (codes "delete from " ++ c.args.table.now) (printed_where c.in-Delete.pred) _ _ _ c.if-spell_both-2.ensures
    c.spell_where-then-spell_both-2.ensures.text (ap (printed_kind c.args.table.now) c.in-Delete.is)
