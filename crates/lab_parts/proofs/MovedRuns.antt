-- What transactions of two parts do, one behind the other.
use Rattle.std.{proofs.{Common.{◌≡◌, ℕ, ◌<◌, ◌≤◌, List, [], ◌∷◌, ◌++◌, map, refl, sym, ap, ◌∙◌, arith}, lemmas.List.Concat.{flat_map-append}}, specs.Prelude.{flat_map}}
use Rattle.lab_table.specs.Table.{Table, overwritten}
use Rattle.lab_history.specs.{History.{History}, Version.{ops_of}, declared.operation.Op.{Op}}
use Rattle.lab_deps.proofs.Places.{times, times_here, times_more}
use Rattle.lab_judge.specs.Runs.{table_after, RunAsRecorded}
use Rattle.lab_parts.{specs.Whole.{above_all, moved, moved_op, joined}, proofs.JoinedTxns.{ops_first, ops_second}}

module _ (before : History) where
  -- moved operations leave the same table
  pub table_moved : (ops : List Op) (t : Table) → table_after (map (moved_op before) ops) t ≡ table_after ops t
  table_moved [] t = refl
  table_moved (op ∷ ops) t = table_moved ops (overwritten op.writes t)

  -- and run as recorded where the operations do
  pub run_moved : (ops : List Op) (t : Table) → RunAsRecorded ops t → RunAsRecorded (map (moved_op before) ops) t
  run_moved [] t runs = tt
  run_moved (op ∷ ops) t runs = (runs.0, run_moved ops (overwritten op.writes t) runs.1)

  map_append : (a b : List Op) → map (moved_op before) (a ++ b) ≡ map (moved_op before) a ++ map (moved_op before) b
  map_append [] b = refl
  map_append (op ∷ a) b = ap (λ ops. moved_op before op ∷ ops) (map_append a b)

module _ (before next : History) where
  -- transactions of the first part do what they did there
  pub all_of_first : (ns : List ℕ) → ((n : ℕ) → 1 ≤ times n ns → n < above_all before.txns) → flat_map (ops_of (joined before next)) ns ≡ flat_map (ops_of before) ns
  all_of_first [] inside = refl
  all_of_first (n ∷ ns) inside =
      ap (λ ops. ops ++ flat_map (ops_of (joined before next)) ns) (ops_first before next n (inside n (omega (arith, times_here n n ns refl))))
      ∙ ap (λ ops. ops_of before n ++ ops) (all_of_first ns (λ m some. inside m (omega (arith, some, times_more m n ns))))

  -- and those of the second do moved operations
  pub all_of_second : (ns : List ℕ) → flat_map (ops_of (joined before next)) (map (moved before) ns) ≡ map (moved_op before) (flat_map (ops_of next) ns)
  all_of_second [] = refl
  all_of_second (n ∷ ns) =
      ap (λ ops. ops ++ flat_map (ops_of (joined before next)) (map (moved before) ns)) (ops_second before next n)
      ∙ ap (λ ops. map (moved_op before) (ops_of next n) ++ ops) (all_of_second ns)
      ∙ sym (map_append before (ops_of next n) (flat_map (ops_of next) ns))

  -- so both do first those and then these
  pub all_of_both : (ns ms : List ℕ) → ((n : ℕ) → 1 ≤ times n ns → n < above_all before.txns)
      → flat_map (ops_of (joined before next)) (ns ++ map (moved before) ms) ≡ flat_map (ops_of before) ns ++ map (moved_op before) (flat_map (ops_of next) ms)
  all_of_both ns ms inside =
      flat_map-append (ops_of (joined before next)) ns (map (moved before) ms)
      ∙ ap (λ ops. ops ++ flat_map (ops_of (joined before next)) (map (moved before) ms)) (all_of_first ns inside)
      ∙ ap (λ ops. flat_map (ops_of before) ns ++ ops) (all_of_second ms)
