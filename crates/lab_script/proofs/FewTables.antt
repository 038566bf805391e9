-- Names of tables that are added to others.
use Rattle.lab_script.proofs.Common.{◌≡◌, ℕ, ◌<◌, ◌≤◌, true, false, cond, List, [], ◌∷◌, ◌++◌, map, length, Option, Some, None, refl, ap, ◌∙◌, arith, length-append, Command, Line, Script, extended, is_among, with_name, with_any, with_all, command_table, line_table, with_commands, with_lines, setup_tables, script_tables}

-- a name more makes no fewer
one_longer : (names : List (List ℕ)) (name : List ℕ) → length names ≤ length (with_name names name)
one_longer names name =
    elim (is_among names name) as (λ b. length names ≤ length (cond b names (names ++ name ∷ []))) [
      | true ↦ omega arith
      | false ↦ let more = length-append names (name ∷ []) in omega (arith, more)
    ]

any_longer : (names : List (List ℕ)) (name : Option (List ℕ)) → length names ≤ length (with_any names name)
any_longer names None = omega arith
any_longer names (Some name) = one_longer names name

pub all_longer : {X : Type 0} (table : X → Option (List ℕ)) (names : List (List ℕ)) (xs : List X) → length names ≤ length (with_all table names xs)
all_longer table names [] = omega arith
all_longer table names (x ∷ xs) = let one = any_longer names (table x) in let rest = all_longer table (with_any names (table x)) xs in omega (arith, one, rest)

-- where a name too many was added among others, all of them are too many
pub over_all : {X : Type 0} (table : X → Option (List ℕ)) (names all : List (List ℕ)) (x : X) (xs : List X) → 4 < length (with_any names (table x)) → with_all table names (x ∷ xs) ≡ all → 4 < length all
over_all table names all x xs over is = let more = all_longer table (with_any names (table x)) xs in omega (arith, over, more, ap length is)

-- the tables of lines and of commands behind them
with_more_lines : (names : List (List ℕ)) (lines more : List Line) → with_lines names (lines ++ more) ≡ with_lines (with_lines names lines) more
with_more_lines names [] more = refl
with_more_lines names (line ∷ lines) more = with_more_lines (with_any names (line_table line)) lines more

lines_of_commands : (names : List (List ℕ)) (session number : ℕ) (cs : List Command)
    → with_lines names (map (λ c. record { session = session; command = c; text_line = number }) cs) ≡ with_commands names cs
lines_of_commands names session number [] = refl
lines_of_commands names session number (c ∷ cs) = lines_of_commands (with_any names (command_table c)) session number cs

pub tables_extended : (script : Script) (session number : ℕ) (cs : List Command) → script_tables (extended script session number cs) ≡ with_commands (script_tables script) cs
tables_extended script session number cs =
    let more : List Line = map (λ c. record { session = session; command = c; text_line = number }) cs in
    with_more_lines (setup_tables script.setup) script.lines more ∙ lines_of_commands (script_tables script) session number cs
