-- Two sound parts that fit are a sound history.
use Rattle.std.proofs.{Common.{◌≡◌, ℕ, ◌+◌, ◌&&◌, cond, map, length, inl, inr, sym, ap, ◌∙◌, subst}, lemmas.List.{length-append, length-map}}
use Rattle.lab_table.specs.Row.{Row}
use Rattle.lab_history.specs.{History.{History}, Version.{installers}, declared.operation.Op.{Op}}
use Rattle.lab_deps.{specs.{Soundness.{IsSound, IsCommittedOp, InstallsOther, EndsOther, has_committed, is_writer}, declared.kind.OpFault.{OpFault, TheVariants.{Dangling, AbortedRead, IntermediateRead, OwnWriteMissed, LaterThanOwn, RowsDiffer, WritesDiffer}}}, proofs.Places.{times, times_count}}
use Rattle.lab_deps.specs.declared.fault.LocalFault.TheVariants as fault
use Rattle.lab_parts.specs.Whole.{above_all, moved, joined}
use Rattle.lab_parts.proofs.JoinedTxns.{first_or_second, outcome_first, outcome_second, op_first, op_from_second, writes_first, writes_second}
use Rattle.lab_parts.proofs.JoinedLists.{times_joined_low, times_joined_high}
use Rattle.lab_parts.proofs.JoinedInstallers.{installers-joined}
use Rattle.lab_parts.proofs.JoinedStates.{state_second}
use Rattle.lab_parts.proofs.SoundParts.{counted, ended, installers_below}
use Rattle.lab_parts.proofs.CarriedFaults.{IsOpFault, first_fault, second_fault}

-- in a sound history no fault of an operation stands
no_fault : (h : History) → IsSound h → (kind : OpFault) (n k : ℕ) (op : Op) (row : Row) → IsCommittedOp h n k op → IsOpFault kind h n k op row → ⊥
no_fault h sound Dangling n k op row is_op f = sound (fault.Dangling n k row) (op, is_op, f)
no_fault h sound AbortedRead n k op row is_op f = sound (fault.AbortedRead n k row) (op, is_op, f)
no_fault h sound IntermediateRead n k op row is_op f = sound (fault.IntermediateRead n k row) (op, is_op, f)
no_fault h sound OwnWriteMissed n k op row is_op f = sound (fault.OwnWriteMissed n k row) (op, is_op, f)
no_fault h sound LaterThanOwn n k op row is_op f = sound (fault.LaterThanOwn n k row) (op, is_op, f)
no_fault h sound RowsDiffer n k op row is_op f = sound (fault.RowsDiffer n k row) (op, is_op, f)
no_fault h sound WritesDiffer n k op row is_op f = sound (fault.WritesDiffer n k row) (op, is_op, f)

-- where none stands, and none of a row, the history is sound
sound_if : (h : History) → ((kind : OpFault) (n k : ℕ) (op : Op) (row : Row) → IsCommittedOp h n k op → IsOpFault kind h n k op row → ⊥) → ((row : Row) → InstallsOther h row → ⊥) → ((row : Row) → EndsOther h row → ⊥) → IsSound h
sound_if h ops installs ends (fault.Dangling n k row) (op, is_op, f) = ops Dangling n k op row is_op f
sound_if h ops installs ends (fault.AbortedRead n k row) (op, is_op, f) = ops AbortedRead n k op row is_op f
sound_if h ops installs ends (fault.IntermediateRead n k row) (op, is_op, f) = ops IntermediateRead n k op row is_op f
sound_if h ops installs ends (fault.OwnWriteMissed n k row) (op, is_op, f) = ops OwnWriteMissed n k op row is_op f
sound_if h ops installs ends (fault.LaterThanOwn n k row) (op, is_op, f) = ops LaterThanOwn n k op row is_op f
sound_if h ops installs ends (fault.RowsDiffer n k row) (op, is_op, f) = ops RowsDiffer n k op row is_op f
sound_if h ops installs ends (fault.WritesDiffer n k row) (op, is_op, f) = ops WritesDiffer n k op row is_op f
sound_if h ops installs ends (fault.InstallOrder row) f = installs row f
sound_if h ops installs ends (fault.EndDiffers row) f = ends row f

module _ (a b : History) (sound_a : IsSound a) (sound_b : IsSound b) (fit : a.end_table ≡ b.initial) where
  -- a committed writer stands once among the installers of both, and nobody else
  counted_joined : (row : Row) (n : ℕ) → times n (installers (joined a b) row) ≡ cond (is_writer (joined a b) row n) 1 0
  counted_joined row n = elim (first_or_second a b n) [
    | inl less ↦
        ap (times n) (installers-joined a b row) ∙ times_joined_low (above_all a.txns) n (installers a row) (installers b row) less ∙ counted a sound_a row n
        ∙ sym (λ i. cond (has_committed (outcome_first a b n less i) && writes_first a b n row less i) 1 0)
    | inr w ↦ subst (λ i. times i (installers (joined a b) row) ≡ cond (is_writer (joined a b) row i) 1 0) (sym w.1)
        (ap (times (moved a w.0)) (installers-joined a b row) ∙ times_joined_high (above_all a.txns) w.0 (installers a row) (installers b row) (installers_below a sound_a row)
        ∙ counted b sound_b row w.0 ∙ sym (λ i. cond (has_committed (outcome_second a b w.0 i) && writes_second a b w.0 row i) 1 0))
  ]

  ops_sound : (kind : OpFault) (n k : ℕ) (op : Op) (row : Row) → IsCommittedOp (joined a b) n k op → IsOpFault kind (joined a b) n k op row → ⊥
  ops_sound kind n k op row is_op f = elim (first_or_second a b n) [
    | inl less ↦
        let there : IsCommittedOp a n k op = (sym (outcome_first a b n less) ∙ is_op.0, sym (op_first a b n k less) ∙ is_op.1) in
        no_fault a sound_a kind n k op row there (first_fault a b sound_a n k op row less there kind f)
    | inr w ↦ moved_ops w.0 (subst (λ i. IsCommittedOp (joined a b) i k op) w.1 is_op) (subst (λ i. IsOpFault kind (joined a b) i k op row) w.1 f)
  ]
    where
      moved_ops : (m : ℕ) → IsCommittedOp (joined a b) (moved a m) k op → IsOpFault kind (joined a b) (moved a m) k op row → ⊥
      moved_ops m is_op f =
          let from = op_from_second a b m k op is_op.1 in
          no_fault b sound_b kind m k from.0 row (sym (outcome_second a b m) ∙ is_op.0, from.1)
          (second_fault a b sound_a fit m k from.0 row kind (subst (λ o. IsOpFault kind (joined a b) (moved a m) k o row) from.2 f))

  installs_sound : (row : Row) → InstallsOther (joined a b) row → ⊥
  installs_sound row (n, differs) = differs (sym (times_count n (installers (joined a b) row)) ∙ counted_joined row n)

  ends_sound : (row : Row) → EndsOther (joined a b) row → ⊥
  ends_sound row differs =
      differs (ended b sound_b row ∙ sym (state_second a b sound_a row fit (length (installers (joined a b) row)) (length (installers b row))
      (ap length (installers-joined a b row) ∙ length-append (installers a row) (map (moved a) (installers b row)) ∙ ap (λ l. length (installers a row) + l) (length-map (installers b row) (moved a)))))

  -- so both are sound together
  pub joined_sound : IsSound (joined a b)
  joined_sound = sound_if (joined a b) ops_sound installs_sound ends_sound
