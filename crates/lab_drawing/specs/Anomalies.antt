-- Anomalies of the transactions of a cycle, as relations over the history.
--
-- In the definitions of the papers, which are over orders of operations, T1 reads a row before or after T2 writes it. Here
-- the version that T1 read precedes T2's in the row's list of versions, or it is T2's or a later one.
--
-- Origin: lost update (P4), read skew (A5A), write skew (A5B), fuzzy read (P2) and phantom (P3): Berenson and others, "A
-- Critique of ANSI SQL Isolation Levels" (1995); long fork: Sovran and others, "Transactional Storage for
-- Geo-Replicated Systems" (2011); read-only anomaly: Fekete, O'Neil and O'Neil, "A Read-Only Transaction Anomaly Under
-- Snapshot Isolation" (2004).
use Rattle.std.specs.Prelude.{◌≡◌, ◌≢◌, ◌⊎◌, ℕ, ◌<◌, ◌≤◌, true, false, Some, List, [], ◌∷◌}
use Rattle.std.specs.List.{Any}
use Rattle.lab_table.specs.Row.{Row}
use Rattle.lab_history.specs.History.{History}
use Rattle.lab_history.specs.Version.{ops_of, IsOp, WritesAt, installers, place_in}
use Rattle.lab_history.specs.declared.operation.Op.{Op}
use Rattle.lab_deps.specs.declared.edge.Edge.{Edge}
use Rattle.lab_deps.specs.declared.edge.Kind.TheVariants.{ItemAnti, PredicateAnti}
use Rattle.lab_drawing.specs.Forks.{fork_of, ties_otherwise}
use Rattle.lab_drawing.specs.Making.{makes}
use Rattle.lab_drawing.specs.Orderable.{HasPlaces}
use Rattle.lab_drawing.specs.Pairs.{overwrites}
use Rattle.lab_drawing.specs.Reads.{reads, place_seen}
use Rattle.lab_drawing.specs.Cycles.{walk_phenomenon}
use Rattle.lab_drawing.specs.Readers.{leads, count_of, is_g2}
use Rattle.lab_drawing.specs.declared.forks.Fork.{Fork}
use Rattle.lab_drawing.specs.declared.nicknames.Nickname.{Nickname}
use Rattle.lab_drawing.specs.declared.nicknames.Nickname.TheVariants as name
use Rattle.lab_drawing.specs.declared.readers.Nodes.TheVariants.{Points, Without}

-- an operation of a transaction read a row, in the version at a position; its own versions don't count
abbrev pub Read : History → ℕ → Row → ℕ → Type 0
Read h n row v = (op : Op) × ((k : ℕ) × IsOp h n k op) × (reads op row ≡ true) × (place_seen h n row op ≡ Some v)

-- a transaction wrote a row: one of its operations did
abbrev pub Wrote : History → ℕ → Row → Type 0
Wrote h n row = (k : ℕ) × WritesAt (ops_of h n) k row

-- a transaction has a position among the installers of a row
abbrev pub Placed : History → ℕ → Row → ℕ → Type 0
Placed h n row p = place_in (installers h row) n ≡ Some p

-- a transaction wrote a row, and installed its version at a position
abbrev pub Installed : History → ℕ → Row → ℕ → Type 0
Installed h n row p = Wrote h n row × Placed h n row p

-- a transaction read a row in a version before another one's
abbrev pub ReadBefore : History → ℕ → Row → ℕ → Type 0
ReadBefore h n row m = (v p : ℕ) × Read h n row v × Installed h m row p × (v < p)

-- a transaction read a row in another one's version or a later one
abbrev pub ReadAfter : History → ℕ → Row → ℕ → Type 0
ReadAfter h n row m = (v p : ℕ) × Read h n row v × Installed h m row p × (p ≤ v)

-- P4, r1[x] .. w2[x] .. w1[x]: T1 installed x later, and its first operation that wrote x saw an older version than T2's, or wrote blindly after its last read of x had seen one
abbrev pub IsLostUpdate : History → ℕ → ℕ → Type 0
IsLostUpdate h two one = (x : Row) × (p q : ℕ) × Installed h two x p × Placed h one x q × (p < q) × (overwrites h one x p false (ops_of h one) ≡ true)

-- A5A, r1[x] .. w2[x] .. w2[y] .. c2 .. r1[y]: of two rows that T2 wrote, T1 read one in an older version, and the other one in T2's or a later one
abbrev pub IsReadSkew : History → ℕ → ℕ → Type 0
IsReadSkew h one two = (x y : Row) × (x ≢ y) × ReadBefore h one x two × ReadAfter h one y two

-- P2, r1[x] .. w2[x] .. c2 .. r1[x]: T1 read a row in an older version than T2's, and in T2's or a later one
abbrev pub IsFuzzyRead : History → ℕ → ℕ → Type 0
IsFuzzyRead h one two = (x : Row) × ReadBefore h one x two × ReadAfter h one x two

-- an operation makes an item anti-dependency at a row from one transaction to another, which wrote the row
abbrev pub Misses : History → ℕ → ℕ → Row → Type 0
Misses h from to row = Wrote h to row × (op : Op) × ((k : ℕ) × IsOp h from k op) × (makes h (record { from = from; to = to; kind = ItemAnti; row = row }) op ≡ true)

-- A5B, r1[x] .. r2[y] .. w1[y] .. w2[x]: each of two transactions has an item anti-dependency to the other one, at two rows
abbrev pub IsWriteSkew : History → ℕ → ℕ → Type 0
IsWriteSkew h one two = (x y : Row) × (x ≢ y) × Misses h one two x × Misses h two one y

-- one transaction read a row in a writer's version or a later one, and another one in an older version
abbrev pub Splits : History → ℕ → ℕ → ℕ → Row → Type 0
Splits h writer saw missed row = ReadAfter h saw row writer × ReadBefore h missed row writer

-- each of two writes, of two rows, is seen by one reader and missed by the other one
abbrev pub IsFork : History → Fork → Type 0
IsFork h f = (x y : Row) × (x ≢ y) × Splits h f.first f.saw_first f.saw_second x × Splits h f.second f.saw_second f.saw_first y

-- the four transactions of a cycle are a fork
abbrev pub IsLongFork : History → List Edge → Type 0
IsLongFork h walk = (a b c d : Edge) × (walk ≡ a ∷ b ∷ c ∷ d ∷ []) × (IsFork h (fork_of a b c d) ⊎ IsFork h (fork_of b c d a))

-- P3, r1[P] .. w2[y in P]: T1 comes before T2 by a predicate anti-dependency, and by no dependency of another kind
abbrev pub IsPhantomAt : History → Edge → Type 0
IsPhantomAt h e = (e.kind ≡ PredicateAnti) × ((row : Row) → (Wrote h e.from row ⊎ Wrote h e.to row) → ties_otherwise h e.from e.to row ≡ true → ⊥)

-- starts and commits can be ordered: the history is a snapshot run
abbrev pub CanBePlaced : History → Type 0
CanBePlaced h = HasPlaces (leads h Points) (count_of h Points)

-- the transactions but one can be ordered: the history without it is serializable
abbrev pub CanBeOrderedWithout : History → ℕ → Type 0
CanBeOrderedWithout h n = HasPlaces (leads h (Without n)) (count_of h (Without n))

-- a snapshot run has a transaction in a cycle that wrote nothing, and without which it is serializable; the cycle has two anti-dependencies at least, as each in a snapshot run
abbrev pub IsReadOnlyAnomaly : History → List Edge → Type 0
IsReadOnlyAnomaly h walk = (is_g2 (walk_phenomenon walk) ≡ true) × CanBePlaced h × Any (λ e. ((row : Row) → ¬ Wrote h e.from row) × CanBeOrderedWithout h e.from) walk

-- two neighbours in a cycle are so, one way or the other
abbrev pub HasPair : (ℕ → ℕ → Type 0) → List Edge → Type 0
HasPair IsOne walk = Any (λ e. IsOne e.from e.to ⊎ IsOne e.to e.from) walk

-- a cycle has the form that a nickname is for
abbrev pub HasForm : History → List Edge → Nickname → Type 0
HasForm h walk name.LostUpdate = HasPair (IsLostUpdate h) walk
HasForm h walk name.ReadSkew = HasPair (IsReadSkew h) walk
HasForm h walk name.FuzzyRead = HasPair (IsFuzzyRead h) walk
HasForm h walk name.WriteSkew = HasPair (IsWriteSkew h) walk
HasForm h walk name.LongFork = IsLongFork h walk
HasForm h walk name.ReadOnlyAnomaly = IsReadOnlyAnomaly h walk
HasForm h walk name.Phantom = Any (IsPhantomAt h) walk
