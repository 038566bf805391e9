-- The marks that a search leaves in cells.
use Rattle.std.specs.Prelude.{◌≡◌, ◌<◌, ◌+◌, ◌*◌, ℕ, List, [], ◌∷◌, length, get_or, set, take, drop, bit_or}

-- cells, of which the one at a place, if there is one, gains bits
abbrev pub or_at : List ℕ → ℕ → ℕ → List ℕ
or_at cs at bits = set cs at (bit_or (get_or cs at 0) bits)

-- those gain bits that stand so many steps behind a first one as some numbers say
abbrev pub marked : ℕ → ℕ → ℕ → List ℕ → List ℕ → List ℕ
marked first step bits [] cs = cs
marked first step bits (n ∷ ns) cs = marked first step bits ns (or_at cs (first + n * step) bits)

-- the first one and those behind it gain the bits of marks
abbrev pub all_marked : ℕ → List ℕ → List ℕ → List ℕ
all_marked first [] cs = cs
all_marked first (m ∷ ms) cs = all_marked (first + 1) ms (or_at cs first m)

-- the cells between a reader and these gain the bits of predicate-reads, as far as they stand before a place, and those of anti-dependencies from there on
abbrev pub turns_marked : ℕ → ℕ → ℕ → List ℕ → List ℕ → List ℕ
turns_marked w reader place ns cs = marked (reader * w) 1 16 (drop place ns) (marked reader w 4 (take place ns) cs)

-- there are cells between a place and all up to another one
abbrev pub Reaches : ℕ → List ℕ → ℕ → ℕ → Type 0
Reaches w cs place most = (place < w) × (most < w) × (length cs ≡ w * w)
