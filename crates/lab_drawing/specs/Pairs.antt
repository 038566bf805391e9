-- Anomalies of two transactions: lost update, read skew, non-repeatable read and write skew.
--
-- Origin: Berenson and others, "A Critique of ANSI SQL Isolation Levels" (1995), section 2 (P2, fuzzy read) and
-- section 4.1 (P4, lost update) and 4.2 (A5A, read skew; A5B, write skew), over versions as in `Reads`.
use Rattle.std.specs.Prelude.{ℕ, nat_lt, Bool, false, not, ◌&&◌, ◌||◌, cond, Option, Some, None, is_none, is_some, List, [], ◌∷◌, filter}
use Rattle.std.specs.List.{list_any}
use Rattle.lab_table.specs.Row.{Row}
use Rattle.lab_table.specs.Statement.{inserted}
use Rattle.lab_history.specs.History.{History}
use Rattle.lab_history.specs.Version.{ops_of, new_state, installers, place_in}
use Rattle.lab_history.specs.declared.operation.Op.{Op}
use Rattle.lab_deps.specs.declared.edge.Edge.{Edge}
use Rattle.lab_deps.specs.declared.edge.Kind.TheVariants.{ItemAnti}
use Rattle.lab_drawing.specs.Making.{is_made}
use Rattle.lab_drawing.specs.Reads.{reads, saw_older, read_older, read_newer, older_rows, newer_rows}
use Rattle.lab_drawing.specs.Values.{uses_values}
use Rattle.lab_drawing.specs.Written.{has_two, rows_by}
use Rattle.lab_drawing.specs.declared.pairs.Pair.{Pair}
use Rattle.lab_drawing.specs.declared.pairs.Pair.TheVariants.{LostUpdate, ReadSkew, FuzzyRead, WriteSkew}

-- ---- lost update: r1[x] .. w2[x] .. w1[x], where T1 writes based on its earlier read value

-- whether an operation overwrites a row whatever its value, after the last read of the row saw a version before the overwritten one
abbrev pub is_blind : Op → Bool → Bool
is_blind op read_older = read_older && not (uses_values op.statement)

-- whether an operation that writes a row loses the version at a position: it saw an older one, or it overwrites blindly; an insert adds the row anew
abbrev pub is_lost_by : History → ℕ → Row → ℕ → Op → Bool → Bool
is_lost_by h n row lost op read_older = is_none (inserted op.statement) && (saw_older h n row lost op || is_blind op read_older)

-- whether the first of some operations that writes a row loses the version at a position; and whether the last read of the row before them saw an older one
abbrev pub overwrites : History → ℕ → Row → ℕ → Bool → List Op → Bool
overwrites h n row lost read_older [] = false
overwrites h n row lost read_older (op ∷ ops) =
    cond (is_some (new_state op row)) (is_lost_by h n row lost op read_older) (overwrites h n row lost (cond (reads op row) (saw_older h n row lost op) read_older) ops)

-- the same where the overwriting transaction installs the row later
abbrev pub loses_at : History → ℕ → Row → Option ℕ → Option ℕ → Bool
loses_at h by row None later = false
loses_at h by row (Some lost) None = false
loses_at h by row (Some lost) (Some later) = nat_lt lost later && overwrites h by row lost false (ops_of h by)

-- whether one transaction's write of a row is lost by another one's
abbrev pub loses : History → ℕ → ℕ → Row → Bool
loses h lost by row = loses_at h by row (place_in (installers h row) lost) (place_in (installers h row) by)

-- the same of one of these rows
abbrev pub loses_some : History → ℕ → ℕ → List Row → Bool
loses_some h lost by rows = list_any (loses h lost by) rows

-- ---- read skew: r1[x] .. w2[x] .. w2[y] .. c2 .. r1[y], of two rows

-- whether a transaction read one of these rows in a version before another one's, and another one of them in that one's or a later one
abbrev pub has_read_skew : History → ℕ → ℕ → List Row → Bool
has_read_skew h n m rows = has_two (older_rows h n m rows) (newer_rows h n m rows)

-- ---- non-repeatable read: r1[x] .. w2[x] .. c2 .. r1[x], of one row

-- whether a transaction read a row both in a version before another one's, and in that one's or a later one
abbrev pub rereads : History → ℕ → ℕ → Row → Bool
rereads h n m row = read_older h n row m && read_newer h n row m

-- the same of one of these rows
abbrev pub rereads_some : History → ℕ → ℕ → List Row → Bool
rereads_some h n m rows = list_any (rereads h n m) rows

-- ---- write skew: r1[x] .. r2[y] .. w1[y] .. w2[x], of two rows

-- whether there is an item anti-dependency at a row from one transaction to another
abbrev pub misses : History → ℕ → ℕ → Row → Bool
misses h from to row = is_made h (record { from = from; to = to; kind = ItemAnti; row = row })

-- whether there are item anti-dependencies both ways between two transactions: at one of the first rows there, and at one of the second back
abbrev pub has_write_skew : History → ℕ → ℕ → List Row → List Row → Bool
has_write_skew h one two there back = has_two (filter (misses h one two) there) (filter (misses h two one) back)

-- ---- neighbours in a cycle

-- whether two transactions have an anomaly; rows that nobody of them wrote don't matter
abbrev pub is_pair : History → Pair → ℕ → ℕ → Bool
is_pair h LostUpdate one two = loses_some h one two (rows_by h one)
is_pair h ReadSkew one two = has_read_skew h one two (rows_by h two)
is_pair h FuzzyRead one two = rereads_some h one two (rows_by h two)
is_pair h WriteSkew one two = has_write_skew h one two (rows_by h two) (rows_by h one)

-- whether the transactions of a dependency have it, one way or the other
abbrev pub is_neighbour : History → Pair → Edge → Bool
is_neighbour h pair e = is_pair h pair e.from e.to || is_pair h pair e.to e.from

-- whether two neighbours in a cycle have it
abbrev pub has_pair : History → Pair → List Edge → Bool
has_pair h pair walk = list_any (is_neighbour h pair) walk
