-- Reads of what was never committed stand where they are tested to be.
use Rattle.std.{proofs.Common.{ℕ, Option, Some, None, inl, inr, arith}, specs.Prelude.{IfSome}}
use Rattle.lab_table.specs.Row.{Row}
use Rattle.lab_history.specs.History.{History}
use Rattle.lab_deps.specs.{Soundness.{Stands}, FaultOrder.{ComesBefore, IsFirstRead}, Search.{IsTestedAt}, declared.fault.LocalFault.TheVariants.{AbortedRead, IntermediateRead}}
use Rattle.lab_deps.specs.declared.kind.OpFault.TheVariants as kind
use Rattle.lab_deps.proofs.BrokenStands.{decides_aborted_read, decides_intermediate}

-- what is so of something that there may be
pub if_some : {A : Type 0} (P Q : A → Type 0) (o : Option A) → ((x : A) → P x → Q x) → IfSome o P → IfSome o Q
if_some P Q None to p = tt
if_some P Q (Some x) to p = to x p

module _ (h : History) (n k : ℕ) (row : Row) where
  pub aborted_stands : IsTestedAt h kind.AbortedRead n k row → Stands h (AbortedRead n k row)
  aborted_stands (op, c, t) = (op, c, (decides_aborted_read h n k op row).0 t)

  pub aborted_tested : Stands h (AbortedRead n k row) → IsTestedAt h kind.AbortedRead n k row
  aborted_tested (op, c, d) = (op, c, (decides_aborted_read h n k op row).1 d)

  pub intermediate_stands : IsTestedAt h kind.IntermediateRead n k row → Stands h (IntermediateRead n k row)
  intermediate_stands (op, c, t) = (op, c, (decides_intermediate h n k op row).0 t)

  pub intermediate_tested : Stands h (IntermediateRead n k row) → IsTestedAt h kind.IntermediateRead n k row
  intermediate_tested (op, c, d) = (op, c, (decides_intermediate h n k op row).1 d)

  pub aborted_first : ((m j : ℕ) (other : Row) → IsTestedAt h kind.AbortedRead m j other → ComesBefore h (m, j, other) (n, k, row) → ⊥) → IsFirstRead h AbortedRead n k row
  aborted_first none m j other stands (inl less) = absurd (omega (arith, less))
  aborted_first none m j other (op, c, d) (inr w) = none m j other (op, c, (decides_aborted_read h m j op other).1 d) w.1

  pub intermediate_first : ((m j : ℕ) (other : Row) → IsTestedAt h kind.IntermediateRead m j other → ComesBefore h (m, j, other) (n, k, row) → ⊥) → IsFirstRead h IntermediateRead n k row
  intermediate_first none m j other stands (inl less) = absurd (omega (arith, less))
  intermediate_first none m j other (op, c, d) (inr w) = none m j other (op, c, (decides_intermediate h m j op other).1 d) w.1
