-- The names of the program's subcommands, in the order in which the help lists them.
use Rattle.std.specs.Prelude.{◌≡◌, ℕ, List, [], ◌∷◌, codes}
use Rattle.clap.specs.Words.{shape_of, subcommand_names}
use Rattle.clap.specs.declared.builder.command.Command.{Command}

-- their names, in the order in which help lists them
abbrev pub subcommands : List (List ℕ)
subcommands = codes "serial" ∷ codes "run" ∷ codes "compare" ∷ codes "judge" ∷ codes "batch"
    ∷ codes "chain" ∷ codes "case" ∷ codes "matrix" ∷ codes "picture" ∷ codes "explain"
    ∷ codes "page" ∷ codes "shrink" ∷ []

-- a command has this name
abbrev pub IsNamed : List ℕ → Command → Type 0
IsNamed name c = (shape_of c).name ≡ name

-- a command has subcommands of these names, in this order
abbrev pub HasSubcommands : List (List ℕ) → Command → Type 0
HasSubcommands names c = subcommand_names c ≡ names
