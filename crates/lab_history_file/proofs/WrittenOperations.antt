-- An operation as it is written.
use Rattle.std.proofs.Common.{refl}
use Rattle.lab_printing.specs.Printed.{printed_statement}
use Rattle.lab_history_file.specs.{FileOf.{IsMapOf, IsPair, IsValue, IsState, IsVersion, SpellsIn, IsOperation}, Tree.{value_tree, written_tree, map_tree, view_tree, op_tree}, declared.file_version.FileVersion.TheVariants.{Two}}
use Rattle.lab_history.specs.declared.operation.Op.{Op}

-- its rows, its statement's printed text, its view and its writes stand for it
pub operation_stands : (op : Op) → IsMapOf (IsPair Two IsValue) (map_tree value_tree op.rows) op.rows → SpellsIn Two (printed_statement op.statement) op.statement
    → IsMapOf (IsVersion Two) (view_tree op.view) op.view → IsMapOf (IsPair Two IsState) (map_tree written_tree op.writes) op.writes → IsOperation Two (op_tree op) op
operation_stands op rows spells view writes = (map_tree value_tree op.rows, view_tree op.view, map_tree written_tree op.writes, printed_statement op.statement, refl, spells, view, rows, writes)
