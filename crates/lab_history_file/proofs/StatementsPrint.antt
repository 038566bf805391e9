-- A statement that a text spells prints.
use Rattle.std.proofs.Common.{ℕ, List}
use Rattle.lab_table.specs.declared.statement.Statement.{Statement}
use Rattle.lab_printing.specs.Limits.{StatementPrints}
use Rattle.lab_statement.{specs.Text.{SpellsStatement}, proofs.ShallowStatements.{statement_shallow}}

pub spelled_prints : (text : List ℕ) (s : Statement) → SpellsStatement text s → StatementPrints s
spelled_prints text s spelled = record { shallow = statement_shallow spelled.parts.3; short = spelled.printed }
