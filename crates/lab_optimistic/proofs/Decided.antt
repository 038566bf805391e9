-- The first of a commit's conflicts, of those by what was written and those by what was read.
use Rattle.std.proofs.Common.{◌≡◌, ℕ, refl, sym, subst, Bool, true, false, cond, inl, inr, Option, Some, None, MatchOption, is_lt}
use Rattle.lab_engine.proofs.{Common.{Row, row_cmp, rows_total, Table, Past, Txn, MayCommit, IsBelow}, ReadConflicts.{stands_or_conflicts}, TakenRows.{none_taken, kinds_apart, first_by_write}}
use Rattle.lab_engine.specs.{declared.{event.Level.TheVariants.{Optimistic}, rules.{Conflict.{Conflict}, ConflictKind.{ConflictKind, TheVariants.{Write, Read}}}}, Rules.{IsFirstConflict, ConflictsBy, ComesFirst}, Taken.{IsFirstTaken}}
use Rattle.lab_optimistic.{specs.Reads.{IsFirstRead, earlier}, proofs.LeastRows.{before_less, below_other}}

module _ (setup : Table) (past : Past) (txn : Txn) where
  -- it is the first, or there is none
  abbrev pub IsDecided : Option Conflict → Type 0
  IsDecided found = MatchOption found (MayCommit Optimistic setup past txn) (λ first. IsFirstConflict Optimistic setup past txn first.kind first.row first.by)

  -- one by what was read, where neither this row nor a lower one has one by what was written
  by_read : (r : Conflict) → IsFirstRead setup past txn (Some r) → ((other : Row) (number : ℕ) → ComesFirst Write other Read r.row → ¬ ConflictsBy Optimistic setup past txn Write other number)
      → IsDecided (Some r)
  by_read r read untaken = (subst (λ kind. ConflictsBy Optimistic setup past txn kind r.row r.by) (sym read.0) read.1, none_before)
    where
      before : (other : ConflictKind) (another : Row) (number : ℕ) → ComesFirst other another Read r.row → ¬ ConflictsBy Optimistic setup past txn other another number
      before Write another number first clash = untaken another number first clash
      before Read another number (inl below) clash = read.2 another number below clash
      before Read another number (inr (_, same, _)) clash = kinds_apart (sym same)

      none_before : (other : ConflictKind) (another : Row) (number : ℕ) → ComesFirst other another r.kind r.row → ¬ ConflictsBy Optimistic setup past txn other another number
      none_before other another number first = before other another number (subst (λ kind. ComesFirst other another kind r.row) read.0 first)

  -- so does the earlier of the first of each kind say
  pub decided : (taken read : Option Conflict) → IsFirstTaken past txn taken → IsFirstRead setup past txn read → IsDecided (earlier taken read)
  decided None None first stand = (first, stand)
  decided None (Some r) first read = by_read r read (λ other number _ clash. none_taken past txn other number first clash)
  decided (Some t) None taken stand = first_by_write Optimistic setup past txn t refl taken (λ other number _ clash. stands_or_conflicts setup past txn other number stand clash)
  decided (Some t) (Some r) taken read = at (is_lt (row_cmp r.row t.row)) refl
    where
      untaken : IsBelow r.row t.row → (other : Row) (number : ℕ) → ComesFirst Write other Read r.row → ¬ ConflictsBy Optimistic setup past txn Write other number
      untaken lower other number (inl below) clash = taken.2 other number (rows_total.trans other r.row t.row below lower) clash
      untaken lower other number (inr (same, _, _)) clash = taken.2 other number (subst (λ row. IsBelow row t.row) (sym same) lower) clash

      at : (lower : Bool) → is_lt (row_cmp r.row t.row) ≡ lower → IsDecided (cond lower (Some r) (Some t))
      at true is = by_read r read (untaken (before_less r.row t.row is))
      at false is = first_by_write Optimistic setup past txn t refl taken (λ other number below clash. read.2 other number (below_other other t.row r.row below is) clash)
