-- Which operations make a dependency, and its arrow.
use Rattle.std.specs.Prelude.{ℕ, ◌+◌, ◌-◌, ◌==◌, nat_le, nat_lt, Bool, false, ◌&&◌, cond, Option, Some, None, is_some, List, [], ◌∷◌}
use Rattle.std.specs.List.{list_any}
use Rattle.std.specs.FinMap as map
use Rattle.lab_table.specs.Row.{Row}
use Rattle.lab_history.specs.History.{History}
use Rattle.lab_history.specs.Version.{ops_of, viewed, installers, place_in, last_write}
use Rattle.lab_history.specs.declared.operation.Op.{Op}
use Rattle.lab_deps.specs.Edges.{place_of, changes}
use Rattle.lab_deps.specs.declared.edge.Edge.{Edge}
use Rattle.lab_deps.specs.declared.edge.Kind.{Kind}
use Rattle.lab_deps.specs.declared.edge.Kind.TheVariants.{Write, ItemRead, PredicateRead, ItemAnti, PredicateAnti}
use Rattle.lab_drawing.specs.declared.drawing.Arrow.{Arrow}
use Rattle.lab_drawing.specs.declared.drawing.Tie.TheVariants.{Dependency}

-- of two ends, the first for an anti-dependency, else the second
abbrev pub anti_first : {X : Type 0} → Kind → X → X → X
anti_first Write a b = b
anti_first ItemRead a b = b
anti_first PredicateRead a b = b
anti_first ItemAnti a b = a
anti_first PredicateAnti a b = a

-- the transaction that a dependency reads in; of two writers the later one
abbrev pub reader_of : Edge → ℕ
reader_of e = anti_first e.kind e.from e.to

-- the transaction that installs what a dependency is about; of two writers the earlier one
abbrev pub writer_of : Edge → ℕ
writer_of e = anti_first e.kind e.to e.from

-- whether an operation that sees the version at the place `seen` depends so on the one that is installed at `own`, or the other way round
abbrev pub ties : History → Kind → Row → Op → ℕ → ℕ → Bool
ties h Write row op seen own = false
ties h ItemRead row op seen own = (seen == own) && is_some (map.get op.rows row)
ties h PredicateRead row op seen own = nat_le own seen && changes h op.statement row (own - 1)
ties h ItemAnti row op seen own = nat_lt seen own && ((own - 1 == seen) && is_some (map.get op.rows row))
ties h PredicateAnti row op seen own = nat_lt seen own && changes h op.statement row (own - 1)

-- the same where both places are there
abbrev pub ties_at : History → Kind → Row → Op → Option ℕ → Option ℕ → Bool
ties_at h kind row op None own = false
ties_at h kind row op (Some seen) None = false
ties_at h kind row op (Some seen) (Some own) = ties h kind row op seen own

-- whether an operation of the reader makes a dependency
abbrev pub makes : History → Edge → Op → Bool
makes h e op = ties_at h e.kind e.row op (place_of h (reader_of e) e.row (viewed op e.row)) (place_in (installers h e.row) (writer_of e))

-- whether some operation of the reader makes it
abbrev pub is_made : History → Edge → Bool
is_made h e = list_any (makes h e) (ops_of h (reader_of e))

-- the number of the first operation that passes a test, where so many come before these
abbrev pub first_op : (Op → Bool) → ℕ → List Op → Option ℕ
first_op test before [] = None
first_op test before (op ∷ ops) = cond (test op) (Some (before + 1)) (first_op test (before + 1) ops)

-- the first of the reader's operations that makes a dependency
abbrev pub reading_op : History → Edge → Option ℕ
reading_op h e = first_op (makes h e) 0 (ops_of h (reader_of e))

-- the operation of a transaction that wrote what it installs of a row
abbrev pub writing_op : History → ℕ → Row → Option ℕ
writing_op h n row = last_write (ops_of h n) row

-- the operation that a dependency leads from
abbrev pub from_of : History → Edge → Kind → Option ℕ
from_of h e Write = writing_op h e.from e.row
from_of h e ItemRead = writing_op h e.from e.row
from_of h e PredicateRead = writing_op h e.from e.row
from_of h e ItemAnti = reading_op h e
from_of h e PredicateAnti = reading_op h e

-- the operation that a dependency leads to
abbrev pub to_of : History → Edge → Kind → Option ℕ
to_of h e Write = writing_op h e.to e.row
to_of h e ItemRead = reading_op h e
to_of h e PredicateRead = reading_op h e
to_of h e ItemAnti = writing_op h e.to e.row
to_of h e PredicateAnti = writing_op h e.to e.row

-- a dependency's arrow between these operations, where both are there
abbrev pub arrow_between : Edge → Option ℕ → Option ℕ → Option Arrow
arrow_between e None to = None
arrow_between e (Some from) None = None
arrow_between e (Some from) (Some to) =
    Some (record { from = record { txn = e.from; op = from }; to = record { txn = e.to; op = to }; tie = Dependency e.kind; row = e.row })

-- the arrow of a dependency, between the operations that make it
abbrev pub arrow_of : History → Edge → Option Arrow
arrow_of h e = arrow_between e (from_of h e e.kind) (to_of h e e.kind)

-- as a list
abbrev pub listed : {X : Type 0} → Option X → List X
listed None = []
listed (Some x) = x ∷ []

-- the arrows of a dependency: one, or none where an operation is missing
abbrev pub arrows_of : History → Edge → List Arrow
arrows_of h e = listed (arrow_of h e)
