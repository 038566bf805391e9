use Rattle.lab_script.proofs.Common.{◌≡◌, ℕ, ◌<◌, length, after, repeated_read, row_onto_read, rows_read}
use Rattle.lab_statement.specs.declared.token.Token.TheVariants as token
use Rattle.lab_script.proofs.setup.rows.Given as goal

-- what is left, added to the table so far, gives the whole
abbrev pub invariant-loop-table : goal.invariant-loop-table
invariant-loop-table l = (k : ℕ) × (length l.parser < k) × (repeated_read k row_onto_read (after token.Comma) l.table l.parser ≡ rows_read l.fn.parser)

abbrev pub decreases-loop-table : goal.decreases-loop-table
decreases-loop-table l = length l.parser
