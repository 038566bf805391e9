-- The names of limits in printed faults.
use Rattle.std.specs.Prelude.{ℕ, List, codes}
use Rattle.lab_history.specs.declared.fault.Limit.{Limit}
use Rattle.lab_history.specs.declared.fault.Limit.TheVariants as limit

-- what there is too much of
abbrev pub limit_name : Limit → List ℕ
limit_name limit.Bytes = codes "bytes"
limit_name limit.Transactions = codes "transactions"
limit_name limit.Operations = codes "operations"
limit_name limit.Tables = codes "tables"
limit_name limit.Ids = codes "ids"
limit_name limit.Entries = codes "entries"
limit_name limit.Statement = codes "statement"
