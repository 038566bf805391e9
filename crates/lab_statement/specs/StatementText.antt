-- The statement that a text spells, as a function of the text. The function agrees with the grammar.
use Rattle.std.specs.Prelude.{ℕ, Bool, ◌&&◌, ◌==◌, nat_le, if◌then◌else◌, List, length, Option, None}
use Rattle.std.specs.List.{list_all}
use Rattle.lab_table.specs.declared.statement.Statement.{Statement}
use Rattle.lab_statement.specs.Token.{tokens}
use Rattle.lab_printing.specs.Limits.{max_line_bytes}
use Rattle.lab_statement.specs.Text.{code_of, is_code_byte}
use Rattle.lab_statement.specs.Stopping.{read_value}
use Rattle.lab_statement.specs.FirstFaults.{whole_statement_read}

-- whether a text is code without a remark, and no longer than a line may be
abbrev pub is_code_alone : List ℕ → Bool
is_code_alone text = nat_le (length text) max_line_bytes && (list_all is_code_byte text && length (code_of text) == length text)

-- the statement that a text spells, if it spells one
unfoldable pub statement_in : List ℕ → Option Statement
statement_in text = if is_code_alone text then read_value (whole_statement_read (tokens text)) else None
