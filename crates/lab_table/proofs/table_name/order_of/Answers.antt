use Rattle.std.proofs.Common.{sym, ◌∙◌, arith}
use Rattle.lab_table.proofs.SameBytes.{none_ties, decided_at}
use Rattle.lab_table.proofs.table_name.order_of.Goals as goal

pub returns-then-differing-eq0 : goal.returns-then-differing-eq0
returns-then-differing-eq0 c = sym (none_ties c.args.a c.args.b (omega arith) (sym c.differing-differing.ensures ∙ c.if-differing-eq0.true))

pub bounds-a-place : goal.bounds-a-place
bounds-a-place c = omega (arith, (decided_at c.args.a c.args.b c.differing-differing.result (omega arith) (omega arith) c.differing-differing.ensures c.if-differing-eq0.false).0)

pub bounds-b-place : goal.bounds-b-place
bounds-b-place c = omega (arith, (decided_at c.args.a c.args.b c.differing-differing.result (omega arith) (omega arith) c.differing-differing.ensures c.if-differing-eq0.false).0)

pub returns : goal.returns
returns c = c.cmp.ensures ∙ sym (decided_at c.args.a c.args.b c.differing-differing.result (omega arith) (omega arith) c.differing-differing.ensures c.if-differing-eq0.false).1
