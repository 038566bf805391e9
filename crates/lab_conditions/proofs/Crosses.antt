-- An index of conditions may be handed to another thread.
use denote.Param.Send.{IsSend, sendable}
use Rattle.std.proofs.{Crossing.{crosses}, MapsCrossing.{crosses as maps}}
use Rattle.lab_table.proofs.{predicate.Pred.TheLaws.TheKnot.{crosses as predicate}, table_name.TableName.TheSendSync.{the_send as table_name}}
use Rattle.lab_conditions.proofs.{column_tests.ColumnTests.TheSendSync.{the_send as column_tests}, lens.Lens.TheSendSync.{the_send as lens}}
use Rattle.lab_conditions.specs.contracts.{by_number.ByNumber.{the_row as by_number_row}, filed.Filed.{the_row as filed_row}, conditions.Conditions.{the_row as conditions_row}, condition_index.ConditionIndex.{the_row as index_row}}

by_number : IsSend by_number_row
by_number = search (sendable, crosses, maps, predicate) depth 40 fits 20000

filed : IsSend filed_row
filed = search (sendable, crosses, maps, lens, by_number) depth 40 fits 20000

conditions : IsSend conditions_row
conditions = search (sendable, column_tests, filed) depth 40 fits 20000

pub index : IsSend index_row
index = search (sendable, crosses, table_name, conditions) depth 40 fits 20000
