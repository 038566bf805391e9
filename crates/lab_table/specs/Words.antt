-- The reserved words of scripts, each with its spelling.
--
-- Origin: SQL's reserved words, cut to this project's profile.
use Rattle.std.specs.Prelude.{ℕ, Bool, List, [], ◌∷◌, find, Option, is_some, option_map, codes}
use Rattle.std.specs.Str.{bytes_eq}
use Rattle.lab_table.specs.declared.word.Word.{Word}
use Rattle.lab_table.specs.declared.word.Word.TheVariants as word

-- each word as it is spelled in lower case
abbrev pub spellings : List (List ℕ × Word)
spellings =
    (codes "select", word.Select) ∷ (codes "from", word.From) ∷ (codes "where", word.Where) ∷ (codes "update", word.Update) ∷ (codes "set", word.Set) ∷ (codes "value", word.Value)
    ∷ (codes "insert", word.Insert) ∷ (codes "into", word.Into) ∷ (codes "id", word.Id) ∷ (codes "values", word.Values) ∷ (codes "delete", word.Delete)
    ∷ (codes "and", word.And) ∷ (codes "or", word.Or) ∷ (codes "not", word.Not) ∷ (codes "in", word.In)
    ∷ (codes "begin", word.Begin) ∷ (codes "commit", word.Commit) ∷ (codes "abort", word.Abort) ∷ (codes "rollback", word.Rollback)
    ∷ (codes "setup", word.Setup) ∷ (codes "transaction", word.Transaction) ∷ (codes "isolation", word.Isolation) ∷ (codes "level", word.Level) ∷ []

-- the word that a text in lower case spells
abbrev pub word_named : List ℕ → Option Word
word_named text = option_map (λ s. s.1) (find (λ s. bytes_eq text s.0) spellings)

-- whether it spells one
abbrev pub is_reserved : List ℕ → Bool
is_reserved text = is_some (word_named text)
