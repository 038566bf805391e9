-- A history whose lists are restricted to some rows.
use Rattle.std.specs.Prelude.{Bool, List, map}
use Rattle.std.specs.FinMap.{retain_keys}
use Rattle.std.specs.List.{list_any}
use Rattle.lab_table.specs.Row.{Row, row_eq}
use Rattle.lab_history.specs.History.{History}
use Rattle.lab_history.specs.declared.operation.Op.{Op}
use Rattle.lab_history.specs.declared.transaction.Txn.{Txn}

-- whether a row is among these
abbrev pub is_among : List Row → Row → Bool
is_among chosen row = list_any (row_eq row) chosen

-- The test that the rows pass.
module _ (test : Row → Bool) where
  abbrev pub op_in_rows : Op → Op
  op_in_rows op = record { statement = op.statement; view = retain_keys op.view test; rows = retain_keys op.rows test; writes = retain_keys op.writes test }

  abbrev pub txn_in_rows : Txn → Txn
  txn_in_rows t = record { no = t.no; outcome = t.outcome; ops = map op_in_rows t.ops }

  abbrev pub in_rows : History → History
  in_rows h = record {
    initial = retain_keys h.initial test;
    txns = map txn_in_rows h.txns;
    installed = retain_keys h.installed test;
    end_table = retain_keys h.end_table test;
  }
