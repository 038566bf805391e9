use Rattle.std.proofs.Common.{◌≡◌, ℕ, drop}
use Rattle.lab_deps.specs.{KindBits.{place}, Numbering.{placed_behind}}
use Rattle.lab_deps.proofs.nodes.places_of.Given as goal

-- those so far have places
abbrev pub invariant-loop-index : goal.invariant-loop-index
invariant-loop-index l = (n : ℕ) → placed_behind (place l.places.items n) l.index (drop l.index l.numbers) n ≡ placed_behind 0 0 l.numbers n
