-- A script that prints breaks no limit of a text.
use Rattle.std.{proofs.Common.{◌≡◌, ℕ, zero, suc, List, [], ◌∷◌, subst, arith}, specs.Prelude.{Contains}}
use Rattle.lab_table.specs.declared.statement.Command.{Command, TheVariants.{Begin, Commit, Abort, Run}}
use Rattle.lab_script.specs.{declared.script.{Line.{Line}, Script.{Script}}, Limits.{AllPrint, ScriptPrints, BreaksDepth, BreaksLength, BreaksTables, long_setup, many_lines, long_statement}}
use Rattle.lab_printing.specs.Limits.{CommandPrints, IsDeep, IsLong}

-- each line's command prints
line_prints : (lines : List Line) → AllPrint lines → (line : Line) → Contains lines line → CommandPrints line.command
line_prints [] all line (k, lt, is) = absurd (omega arith)
line_prints (first ∷ lines) all line (zero, lt, is) = subst (λ l. CommandPrints l.command) is all.0
line_prints (first ∷ lines) all line (suc k, lt, is) = line_prints lines all.1 line (k, omega arith, is)

-- what prints isn't too deep
pub not_deep : (command : Command) → CommandPrints command → IsDeep command → ⊥
not_deep Begin prints deep = deep
not_deep Commit prints deep = deep
not_deep Abort prints deep = deep
not_deep (Run s) prints deep = absurd (omega (arith, prints.shallow, deep))

-- nor too long
pub not_long : (command : Command) → CommandPrints command → IsLong command → ⊥
not_long Begin prints long = long
not_long Commit prints long = long
not_long Abort prints long = long
not_long (Run s) prints long = absurd (omega (arith, prints.short, long))

-- so no limit of depth is broken
pub keeps_depth : (script : Script) → ScriptPrints script → BreaksDepth script → ⊥
keeps_depth script prints broken = not_deep broken.line.command (line_prints script.lines prints.lines broken.line broken.stands) broken.is

-- nor one of length
pub keeps_length : (script : Script) → ScriptPrints script → BreaksLength script → ⊥
keeps_length script prints (long_setup long) = absurd (omega (arith, prints.setup, long))
keeps_length script prints (many_lines many) = absurd (omega (arith, prints.few, many))
keeps_length script prints (long_statement long) = not_long long.line.command (line_prints script.lines prints.lines long.line long.stands) long.is

-- and no more tables are named than may be
pub keeps_tables : (script : Script) → ScriptPrints script → BreaksTables script → ⊥
keeps_tables script prints many = absurd (omega (arith, prints.tables, many))
