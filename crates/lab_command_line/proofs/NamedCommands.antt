-- A command with one subcommand more.
use Rattle.std.proofs.Common.{ap, ◌∙◌, ℕ, List, [], ◌∷◌, ◌++◌, map}
use Rattle.std.proofs.lemmas.List.{map_push}
use Rattle.clap.specs.Words.{AddsSubcommand, Shape, names_in, shape_of, subcommands_of}
use Rattle.clap.specs.declared.builder.command.Command.{Command}
use Rattle.lab_command_line.specs.Subcommands.{HasSubcommands, IsNamed}

-- its name stands behind theirs
pub names_added : (old sub new : Command) (name : List ℕ) (names : List (List ℕ))
    → HasSubcommands names old → IsNamed name sub → AddsSubcommand old sub new
    → HasSubcommands (names ++ name ∷ []) new
names_added old sub new name names h n a =
    ap names_in a.subcommands
    ∙ ap (map (λ (s : Shape). s.name)) (map_push shape_of (subcommands_of old) a.added)
    ∙ map_push (λ (s : Shape). s.name) (map shape_of (subcommands_of old)) (shape_of a.added)
    ∙ ap (λ (ns : List (List ℕ)). ns ++ (shape_of a.added).name ∷ []) h
    ∙ ap (λ (t : List ℕ). names ++ t ∷ []) (ap (λ t. t.now) a.name ∙ n)
