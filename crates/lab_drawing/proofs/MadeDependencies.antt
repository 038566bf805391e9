-- A dependency with a reader is one that an operation of the reader makes.
use Rattle.std.{proofs.Common.{◌≢◌, ℕ, refl}, specs.Prelude.{◌↔◌}}
use Rattle.lab_table.specs.Row.{Row}
use Rattle.lab_history.specs.History.{History}
use Rattle.lab_deps.specs.{Edges.{Depends}, declared.edge.Kind.{Kind, TheVariants.{Write, ItemRead, PredicateRead, ItemAnti, PredicateAnti}}}
use Rattle.lab_drawing.specs.ArrowLaws.{MakesAt}

module _ (h : History) (row : Row) (from to : ℕ) where
  made_by : (kind : Kind) → kind ≢ Write → Depends h kind row from to → (k : ℕ) × MakesAt h kind row from to k
  made_by Write other depends = absurd (other refl)
  made_by ItemRead other (op, p, ((k, is_op), seen), lists, at) = (k, (op, p, (is_op, seen), lists, at))
  made_by PredicateRead other (op, v, p, ((k, is_op), seen), less, at, changed) = (k, (op, v, p, (is_op, seen), less, at, changed))
  made_by ItemAnti other (op, v, ((k, is_op), seen), lists, at) = (k, (op, v, (is_op, seen), lists, at))
  made_by PredicateAnti other (op, v, p, ((k, is_op), seen), least, at, changed) = (k, (op, v, p, (is_op, seen), least, at, changed))

  makes : (kind : Kind) (k : ℕ) → MakesAt h kind row from to k → Depends h kind row from to
  makes Write k made = absurd made
  makes ItemRead k (op, p, (is_op, seen), lists, at) = (op, p, ((k, is_op), seen), lists, at)
  makes PredicateRead k (op, v, p, (is_op, seen), less, at, changed) = (op, v, p, ((k, is_op), seen), less, at, changed)
  makes ItemAnti k (op, v, (is_op, seen), lists, at) = (op, v, ((k, is_op), seen), lists, at)
  makes PredicateAnti k (op, v, p, (is_op, seen), least, at, changed) = (op, v, p, ((k, is_op), seen), least, at, changed)

-- a dependency of another kind than a write after a write is made by an operation, and what one makes is a dependency
pub dependencies_made : (h : History) (kind : Kind) (row : Row) (from to : ℕ) → kind ≢ Write → Depends h kind row from to ↔ ((k : ℕ) × MakesAt h kind row from to k)
dependencies_made h kind row from to other = (made_by h row from to kind other, λ made. makes h row from to kind made.0 made.1)
