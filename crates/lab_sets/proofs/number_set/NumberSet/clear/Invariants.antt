use Rattle.std.proofs.Common.{◌≡◌, ◌<◌, ℕ, length, get_or}
use Rattle.lab_sets.proofs.number_set.NumberSet.clear.Given as goal

abbrev pub invariant-words : goal.invariant-words
invariant-words l =
    (length l.self-inside.words.items ≡ length l.fn.self)
    × ((j : ℕ) → j < l.k → get_or l.self-inside.words.items j 0 ≡ 0)
