-- What transactions read of rows that others wrote.
--
-- In the definitions of anomalies, which are over orders of operations, "T1 reads x before T2 writes it" becomes here:
-- the version that T1 read is before T2's in the order in which the row's versions were installed. An operation reads a
-- row if it lists the row and its result depends on the row's value; a blind overwrite reads nothing. What a
-- transaction reads of its own writes isn't compared with others' writes.
--
-- Origin: version orders: Adya, Liskov and O'Neil, "Generalized Isolation Level Definitions" (2000), section 4; reads
-- before and after writes: Berenson and others, "A Critique of ANSI SQL Isolation Levels" (1995), section 2.
use Rattle.std.specs.Prelude.{ℕ, nat_lt, nat_le, Bool, false, ◌&&◌, Option, Some, None, is_some, List, filter}
use Rattle.std.specs.List.{list_any}
use Rattle.std.specs.FinMap as map
use Rattle.lab_table.specs.Row.{Row}
use Rattle.lab_history.specs.History.{History}
use Rattle.lab_history.specs.Version.{ops_of, viewed, installers, place_in}
use Rattle.lab_history.specs.declared.operation.Op.{Op}
use Rattle.lab_deps.specs.Edges.{place_of}
use Rattle.lab_drawing.specs.Values.{uses_values}

-- whether an operation reads a row
abbrev pub reads : Op → Row → Bool
reads op row = is_some (map.get op.rows row) && uses_values op.statement

-- the position of the version of a row that an operation saw; none of its own transaction's
abbrev pub place_seen : History → ℕ → Row → Op → Option ℕ
place_seen h n row op = place_of h n row (viewed op row)

-- whether there is a position, and it is below this one
abbrev pub is_below : Option ℕ → ℕ → Bool
is_below None written = false
is_below (Some seen) written = nat_lt seen written

-- whether there is a position, and it is this one or above it
abbrev pub is_above : Option ℕ → ℕ → Bool
is_above None written = false
is_above (Some seen) written = nat_le written seen

-- whether an operation saw a version of a row before the one at a position
abbrev pub saw_older : History → ℕ → Row → ℕ → Op → Bool
saw_older h n row written op = is_below (place_seen h n row op) written

-- the same of an operation that read the row
abbrev pub is_older_read : History → ℕ → Row → ℕ → Op → Bool
is_older_read h n row written op = reads op row && saw_older h n row written op

-- whether an operation read a row in the version at a position or a later one
abbrev pub is_newer_read : History → ℕ → Row → ℕ → Op → Bool
is_newer_read h n row written op = reads op row && is_above (place_seen h n row op) written

-- whether a transaction has an operation of this kind
abbrev pub has_older : History → ℕ → Row → ℕ → Bool
has_older h n row written = list_any (is_older_read h n row written) (ops_of h n)

abbrev pub has_newer : History → ℕ → Row → ℕ → Bool
has_newer h n row written = list_any (is_newer_read h n row written) (ops_of h n)

-- where there is such a position
abbrev pub older_at : History → ℕ → Row → Option ℕ → Bool
older_at h n row None = false
older_at h n row (Some written) = has_older h n row written

abbrev pub newer_at : History → ℕ → Row → Option ℕ → Bool
newer_at h n row None = false
newer_at h n row (Some written) = has_newer h n row written

-- whether a transaction read a row in a version before another one's
abbrev pub read_older : History → ℕ → Row → ℕ → Bool
read_older h n row m = older_at h n row (place_in (installers h row) m)

-- whether a transaction read a row in another one's version or a later one
abbrev pub read_newer : History → ℕ → Row → ℕ → Bool
read_newer h n row m = newer_at h n row (place_in (installers h row) m)

-- those of some rows that a transaction read in a version before another one's
abbrev pub older_rows : History → ℕ → ℕ → List Row → List Row
older_rows h n m rows = filter (λ row. read_older h n row m) rows

-- those that it read in the other one's version or a later one
abbrev pub newer_rows : History → ℕ → ℕ → List Row → List Row
newer_rows h n m rows = filter (λ row. read_newer h n row m) rows
