use Rattle.std.proofs.Common.{◌≡◌, false, drop}
use Rattle.lab_drawing.specs.Pairs.{overwrites}
use Rattle.lab_drawing.proofs.pairs.overwrites.Given as goal

-- what is left of the operations says what they all say
abbrev pub invariant-loop-op : goal.invariant-loop-op
invariant-loop-op l = overwrites l.history l.txn l.row l.lost l.read_older (drop l.op-index l.ops) ≡ overwrites l.history l.txn l.row l.lost false l.ops
