-- A history whose views a mask has reduced to some entries.
use Rattle.std.specs.Prelude.{Bool, List, [], ◌∷◌, length, drop}
use Rattle.std.specs.FinMap.{entries, from_sorted}
use Rattle.lab_history.specs.History.{History}
use Rattle.lab_history.specs.declared.operation.Op.{Op}
use Rattle.lab_history.specs.declared.transaction.Txn.{Txn}
use Rattle.lab_cut.specs.Left.{left_of}

-- what is left of a mask of entries behind the views of operations
abbrev pub behind_views : List Bool → List Op → List Bool
behind_views mask [] = mask
behind_views mask (op ∷ ops) = behind_views (drop (length (entries op.view)) mask) ops

-- an operation of whose view a mask keeps these entries
abbrev pub op_seeing : List Bool → Op → Op
op_seeing mask op = record { statement = op.statement; view = from_sorted (left_of mask (entries op.view)); rows = op.rows; writes = op.writes }

-- operations, with a mask of the entries of all their views in turn
abbrev pub ops_seeing : List Bool → List Op → List Op
ops_seeing mask [] = []
ops_seeing mask (op ∷ ops) = op_seeing mask op ∷ ops_seeing (drop (length (entries op.view)) mask) ops

abbrev pub txns_seeing : List Bool → List Txn → List Txn
txns_seeing mask [] = []
txns_seeing mask (t ∷ ts) = record { no = t.no; outcome = t.outcome; ops = ops_seeing mask t.ops } ∷ txns_seeing (behind_views mask t.ops) ts

-- a history of whose views a mask keeps these entries
abbrev pub seeing : List Bool → History → History
seeing mask h = record { initial = h.initial; txns = txns_seeing mask h.txns; installed = h.installed; end_table = h.end_table }
