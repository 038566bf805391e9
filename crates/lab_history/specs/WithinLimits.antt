-- The limits on the tables, rows and entries of a whole history.
use Rattle.std.specs.Prelude.{⊤, nat_lt, map, sum, Result, Ok}
use Rattle.lab_history.specs.Faults.{◌>>=◌, refused_if}
use Rattle.lab_history.specs.History.{History}
use Rattle.lab_history.specs.Limits.{max_tables, max_ids, max_entries}
use Rattle.lab_history.specs.HistoryRules.{operations, named_tables, distinct_tables, named_rows, distinct_rows, op_entries}
use Rattle.lab_history.specs.declared.fault.FileFault.{FileFault}
use Rattle.lab_history.specs.declared.fault.FileFault.TheVariants as fault
use Rattle.lab_history.specs.declared.fault.Limit.TheVariants as limit

-- too many tables, else too many ids, else too many entries
abbrev pub within_limits : History → Result ⊤ FileFault
within_limits h =
    refused_if (nat_lt max_tables (distinct_tables (named_tables h))) (fault.OverLimit limit.Tables) >>= λ _.
    refused_if (nat_lt max_ids (distinct_rows (named_rows h))) (fault.OverLimit limit.Ids) >>= λ _.
    refused_if (nat_lt max_entries (sum (map op_entries (operations h.txns)))) (fault.OverLimit limit.Entries)

-- a history that keeps them, or its first fault
abbrev pub limited : History → Result History FileFault
limited h = within_limits h >>= λ _. Ok h
