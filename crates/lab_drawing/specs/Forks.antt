-- Long forks and phantoms.
--
-- Origin: long fork: Sovran, Power, Aguilera and Li, "Transactional Storage for Geo-Replicated Systems" (2011), section
-- 3.1; phantom: Berenson and others, "A Critique of ANSI SQL Isolation Levels" (1995), section 2 (P3), as the predicate
-- anti-dependency of Adya, "Weak Consistency: A Generalized Theory and Optimistic Implementations for Distributed
-- Transactions" (1999).
use Rattle.std.specs.Prelude.{ℕ, ◌==◌, Bool, true, false, not, ◌&&◌, ◌||◌, cond, List, [], ◌∷◌, filter}
use Rattle.std.specs.List.{list_any}
use Rattle.lab_table.specs.Row.{Row}
use Rattle.lab_history.specs.History.{History}
use Rattle.lab_history.specs.Version.{installers}
use Rattle.lab_deps.specs.declared.edge.Edge.{Edge}
use Rattle.lab_deps.specs.declared.edge.Kind.{Kind}
use Rattle.lab_deps.specs.declared.edge.Kind.TheVariants.{Write, ItemRead, PredicateRead, ItemAnti, PredicateAnti}
use Rattle.lab_drawing.specs.Making.{is_made}
use Rattle.lab_drawing.specs.Reads.{read_older, read_newer}
use Rattle.lab_drawing.specs.Written.{has_two, rows_by}
use Rattle.lab_drawing.specs.declared.forks.Fork.{Fork}

-- ---- long fork: each of two writes is seen by one reader, which misses the other write

-- whether one transaction read a row in a writer's version or a later one, and another one in an older version
abbrev pub splits : History → ℕ → ℕ → ℕ → Row → Bool
splits h writer saw missed row = read_newer h saw row writer && read_older h missed row writer

-- the rows of the writer at which this is so
abbrev pub split_rows : History → ℕ → ℕ → ℕ → List Row
split_rows h writer saw missed = filter (splits h writer saw missed) (rows_by h writer)

-- whether each of two writes of two rows is seen by its reader alone
abbrev pub is_fork : History → Fork → Bool
is_fork h f = has_two (split_rows h f.first f.saw_first f.saw_second) (split_rows h f.second f.saw_second f.saw_first)

-- the transactions from which these dependencies lead
abbrev pub fork_of : Edge → Edge → Edge → Edge → Fork
fork_of one two three four = record { first = one.from; saw_first = two.from; second = three.from; saw_second = four.from }

-- whether a cycle is a long fork: its four transactions are one, the first writer being its first or its second; with two more the writers change their parts
abbrev pub is_long_fork : History → List Edge → Bool
is_long_fork h [] = false
is_long_fork h (a ∷ []) = false
is_long_fork h (a ∷ b ∷ []) = false
is_long_fork h (a ∷ b ∷ c ∷ []) = false
is_long_fork h (a ∷ b ∷ c ∷ d ∷ []) = is_fork h (fork_of a b c d) || is_fork h (fork_of b c d a)
is_long_fork h (a ∷ b ∷ c ∷ d ∷ e ∷ es) = false

-- ---- phantom: a predicate of the reader's missed the write, and nothing else leads from the reader to the writer

-- whether one number comes right after another in a list; and whether the first of the list comes right after it
abbrev pub follows : ℕ → ℕ → Bool → List ℕ → Bool
follows first next is_behind [] = false
follows first next is_behind (n ∷ ns) = cond (is_behind && (n == next)) true (follows first next (n == first) ns)

-- whether one transaction depends on another so at a row, by an operation of the reader
abbrev pub depends : History → ℕ → ℕ → Kind → Row → Bool
depends h from to kind row = is_made h (record { from = from; to = to; kind = kind; row = row })

-- whether one depends on another at a row in another way than by a predicate anti-dependency
abbrev pub ties_otherwise : History → ℕ → ℕ → Row → Bool
ties_otherwise h from to row =
    follows from to false (installers h row) || (depends h from to ItemRead row || (depends h from to PredicateRead row || depends h from to ItemAnti row))

-- the same at one of these rows
abbrev pub ties_at_some : History → ℕ → ℕ → List Row → Bool
ties_at_some h from to rows = list_any (ties_otherwise h from to) rows

-- the same at some row that one of the two wrote
abbrev pub is_tied_otherwise : History → ℕ → ℕ → Bool
is_tied_otherwise h from to = ties_at_some h from to (rows_by h from) || ties_at_some h from to (rows_by h to)

-- whether it is the kind of a dependency from a reader to a later writer that changes its matches
abbrev pub is_predicate_anti : Kind → Bool
is_predicate_anti Write = false
is_predicate_anti ItemRead = false
is_predicate_anti PredicateRead = false
is_predicate_anti ItemAnti = false
is_predicate_anti PredicateAnti = true

-- whether a dependency is a predicate anti-dependency, and there is none of another kind between its transactions
abbrev pub is_phantom_at : History → Edge → Bool
is_phantom_at h e = is_predicate_anti e.kind && not (is_tied_otherwise h e.from e.to)

-- whether a cycle has one
abbrev pub is_phantom : History → List Edge → Bool
is_phantom h walk = list_any (is_phantom_at h) walk
