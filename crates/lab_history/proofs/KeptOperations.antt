-- What operations keep, joined and parted.
use Rattle.std.proofs.Common.{List, [], ◌∷◌, ◌++◌}
use Rattle.lab_history.specs.{HistoryRules.{OpsKeep}, declared.operation.Op.{Op}}

-- operations that keep to what is asked of them do so joined
pub ops_joined : (ops more : List Op) → OpsKeep ops → OpsKeep more → OpsKeep (ops ++ more)
ops_joined [] more h k = k
ops_joined (op ∷ ops) more h k = (h.0, ops_joined ops more h.1 k)

-- and parted
pub ops_parted : (ops more : List Op) → OpsKeep (ops ++ more) → OpsKeep ops × OpsKeep more
ops_parted [] more h = (tt, h)
ops_parted (op ∷ ops) more h = let rest = ops_parted ops more h.1 in ((h.0, rest.0), rest.1)
