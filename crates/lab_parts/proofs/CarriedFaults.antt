-- Faults of operations of two parts are faults of the part that has them.
use Rattle.std.proofs.{Common.{◌≡◌, ℕ, ◌-◌, ◌<◌, ◌≤◌, Option, Some, None, take, length, ◌⊎◌, inl, inr, refl, sym, ap, ◌∙◌, arith}, lemmas.{List.{take-map}, Option.{none-some, same_Some, slice_get_within}}}
use Rattle.lab_table.specs.{Row.{Row}, Statement.{listed, written, fails}}
use Rattle.lab_history.specs.{History.{History}, Version.{ops_of, outcome_of, viewed, version_state, last_write, installers}, declared.{transaction.Outcome.{Outcome, TheVariants.{Committed, Aborted}}, operation.{Op.{Op}, VersionName.{VersionName, TheVariants.{Initial, Of}}}}}
use Rattle.lab_deps.specs.{Soundness.{IsSound, IsCommittedOp, IsDangling, SeesAborted, SeesIntermediate, MissesOwn, SeesLater, ListsOther, WritesOther}, declared.kind.OpFault.{OpFault, TheVariants.{Dangling, AbortedRead, IntermediateRead, OwnWriteMissed, LaterThanOwn, RowsDiffer, WritesDiffer}}}
use Rattle.lab_parts.specs.Whole.{above_all, moved, moved_version, moved_op, joined}
use Rattle.lab_parts.proofs.JoinedTxns.{outcome_first, outcome_second, ops_first, ops_second, last_first, last_second, last_write_moved, version_first, version_second, committed_below}
use Rattle.lab_parts.proofs.JoinedInstallers.{viewed-moved}
use Rattle.lab_parts.proofs.JoinedStates.{LastInstaller, seam_of, viewed_first, viewed_second}
use Rattle.lab_parts.proofs.SoundParts.{sees_below}
use Rattle.lab_parts.proofs.JoinedInstalls.{first_at, second_at}

-- a fault of this kind is true of an operation and a row
abbrev pub IsOpFault : OpFault → History → ℕ → ℕ → Op → Row → Type 0
IsOpFault Dangling h n k op row = IsDangling h n k op row
IsOpFault AbortedRead h n k op row = SeesAborted h op row
IsOpFault IntermediateRead h n k op row = SeesIntermediate h n op row
IsOpFault OwnWriteMissed h n k op row = MissesOwn h n k op row
IsOpFault LaterThanOwn h n k op row = SeesLater h n op row
IsOpFault RowsDiffer h n k op row = ListsOther h op row
IsOpFault WritesDiffer h n k op row = WritesOther h op row

-- what a fault of an operation of the first part is there
module _ (a b : History) (sound : IsSound a) (n k : ℕ) (op : Op) (row : Row) (less : n < above_all a.txns) (is_op : IsCommittedOp a n k op) where
  below : (m j : ℕ) → viewed op row ≡ Of m j → m < above_all a.txns
  below m j views = sees_below a sound n k op row m j is_op views

  -- each is one there
  pub first_fault : (kind : OpFault) → IsOpFault kind (joined a b) n k op row → IsOpFault kind a n k op row
  first_fault Dangling (m, j, views, inl gone) = (m, j, views, inl (sym (version_first a b m j row (below m j views)) ∙ gone))
  first_fault Dangling (m, j, views, inr own) = (m, j, views, inr own)
  first_fault AbortedRead (m, j, views, aborted) = (m, j, views, sym (outcome_first a b m (below m j views)) ∙ aborted)
  first_fault IntermediateRead (m, j, l, views, other, last, differs) = (m, j, l, views, other, sym (last_first a b m row (below m j views)) ∙ last, differs)
  first_fault OwnWriteMissed (j, last, misses) = (j, ap (λ ops. last_write (take (k - 1) ops) row) (sym (ops_first a b n less)) ∙ last, misses)
  first_fault LaterThanOwn (m, j, p, q, views, other, committed, at_n, at_m, later) =
      let low = below m j views in
      (m, j, p, q, views, other, sym (outcome_first a b m low) ∙ committed, first_at a b row p n at_n less, first_at a b row q m at_m low, later)
  first_fault RowsDiffer differs = λ same. differs (same ∙ ap (listed op.statement row) (sym (viewed_first a b sound row n k op is_op)))
  first_fault WritesDiffer (inl differs) = inl (λ same. differs (same ∙ ap (written op.statement row) (sym (viewed_first a b sound row n k op is_op))))
  first_fault WritesDiffer (inr stops) = inr (ap (fails op.statement row) (sym (viewed_first a b sound row n k op is_op)) ∙ stops)

-- a moved operation sees a moved version, or the one that the last installer of the first part left
pub record SeesMoved (a : History) (op : Op) (row : Row) (m j : ℕ) : Type 0 where
  pub was : ℕ
  pub views : viewed op row ≡ Of was j
  pub is_moved : m ≡ moved a was

pub record SeesSeam (a : History) (row : Row) (m j : ℕ) : Type 0 where
  pub last : LastInstaller a row
  pub txn_is : m ≡ last.txn
  pub place_is : j ≡ last.by.place

module _ (a : History) (sound : IsSound a) (op : Op) (row : Row) where
  pub sees_either : (m j : ℕ) → viewed (moved_op a op) row ≡ Of m j → SeesMoved a op row m j ⊎ SeesSeam a row m j
  sees_either m j views = of (viewed op row) refl (sym (viewed-moved a a row op) ∙ views)
    where
      of : (v : VersionName) → viewed op row ≡ v → moved_version a row v ≡ Of m j → SeesMoved a op row m j ⊎ SeesSeam a row m j
      of Initial e s = elim (seam_of a sound row) [
        | inl x ↦ let none = x.seam_is in absurd cc
        | inr x ↦ let seam : Of x.txn x.by.place ≡ Of m j = sym x.seam_is ∙ s in inr (record { last = x; txn_is = cc; place_is = cc })
      ]
      of (Of n i) e s = inl (record { was = n; views = e ∙ ap (Of n) cc; is_moved = cc })

module _ (a b : History) (sound : IsSound a) (fit : a.end_table ≡ b.initial) (m k : ℕ) (was : Op) (row : Row) where
  -- the last installer of the first part isn't a moved number
  not_moved : (n : ℕ) (last : LastInstaller a row) → last.txn ≡ moved a n → ⊥
  not_moved n last e = let low : last.txn < above_all a.txns = committed_below a last.txn last.by.committed in absurd (omega (arith, low, e))

  -- a version that isn't there isn't there in the second part
  second_dangling : IsOpFault Dangling (joined a b) (moved a m) k (moved_op a was) row → IsOpFault Dangling b m k was row
  second_dangling (n, j, views, wrong) = of (sees_either a sound was row n j views) wrong
    where
      of : SeesMoved a was row n j ⊎ SeesSeam a row n j → (version_state (joined a b) row (Of n j) ≡ None) ⊎ ((n ≡ moved a m) × (k ≤ j)) → IsOpFault Dangling b m k was row
      of (inl x) (inl gone) = (x.was, j, x.views, inl (sym (version_second a b x.was j row) ∙ ap (λ i. version_state (joined a b) row (Of i j)) (sym x.is_moved) ∙ gone))
      of (inl x) (inr (own, late)) = (x.was, j, x.views, inr (omega (arith, x.is_moved, own), late))
      of (inr x) (inl gone) =
          let y = x.last in
          absurd (none-some y.by.state
          (sym gone ∙ (λ i. version_state (joined a b) row (Of (x.txn_is i) (x.place_is i))) ∙ version_first a b y.txn y.by.place row (committed_below a y.txn y.by.committed) ∙ y.by.state_is))
      of (inr x) (inr (own, late)) = absurd (not_moved m x.last (sym x.txn_is ∙ own))

  -- one of an aborted transaction is one of an aborted transaction there
  second_aborted : IsOpFault AbortedRead (joined a b) (moved a m) k (moved_op a was) row → IsOpFault AbortedRead b m k was row
  second_aborted (n, j, views, aborted) = elim (sees_either a sound was row n j views) [
    | inl x ↦ (x.was, j, x.views, sym (outcome_second a b x.was) ∙ ap (outcome_of (joined a b)) (sym x.is_moved) ∙ aborted)
    | inr x ↦
        let both : ◌≡◌ {A = Option Outcome} (Some Committed) (Some Aborted) =
        sym x.last.by.committed ∙ sym (outcome_first a b x.last.txn (committed_below a x.last.txn x.last.by.committed)) ∙ ap (outcome_of (joined a b)) (sym x.txn_is) ∙ aborted in
        absurd cc
  ]

  -- one that isn't the last of its transaction isn't the last there
  second_intermediate : IsOpFault IntermediateRead (joined a b) (moved a m) k (moved_op a was) row → IsOpFault IntermediateRead b m k was row
  second_intermediate (n, j, l, views, other, last, differs) = elim (sees_either a sound was row n j views) [
    | inl x ↦
        (x.was, j, l, x.views, λ same. other (x.is_moved ∙ ap (moved a) same), sym (last_second a b x.was row) ∙ ap (λ i. last_write (ops_of (joined a b) i) row) (sym x.is_moved) ∙ last, differs)
    | inr x ↦
        let left : last_write (ops_of (joined a b) n) row ≡ Some x.last.by.place =
        ap (λ i. last_write (ops_of (joined a b) i) row) x.txn_is ∙ last_first a b x.last.txn row (committed_below a x.last.txn x.last.by.committed) ∙ x.last.by.last_is in
        absurd (differs (same_Some l j (sym last ∙ left ∙ ap Some (sym x.place_is))))
  ]

  -- an own write that is missed is missed there
  second_missed : IsOpFault OwnWriteMissed (joined a b) (moved a m) k (moved_op a was) row → IsOpFault OwnWriteMissed b m k was row
  second_missed (j, last, misses) = (
    j,
    sym (last_write_moved a (take (k - 1) (ops_of b m)) row) ∙ ap (λ ops. last_write ops row) (sym (ap (take (k - 1)) (ops_second a b m) ∙ take-map (moved_op a) (k - 1) (ops_of b m))) ∙ last,
    λ views. misses (viewed-moved a b row was ∙ ap (moved_version a row) views),
  )

  -- one that stands after the own one stands after it there
  second_later : IsOpFault LaterThanOwn (joined a b) (moved a m) k (moved_op a was) row → IsOpFault LaterThanOwn b m k was row
  second_later (n, j, p, q, views, other, committed, at_m, at_n, later) =
      let own = second_at a b sound row p m at_m in
      elim (sees_either a sound was row n j views) [
        | inl x ↦
            let its = second_at a b sound row q x.was (at_n ∙ ap Some x.is_moved) in
            (x.was, j, own.0, its.0, x.views, λ same. other (x.is_moved ∙ ap (moved a) same), sym (outcome_second a b x.was) ∙ ap (outcome_of (joined a b)) (sym x.is_moved) ∙ committed, own.2, its.2, omega (arith, own.1, its.1, later))
        | inr x ↦
            let within : q < length (installers a row) = slice_get_within (installers a row) q x.last.txn (first_at a b row q x.last.txn (at_n ∙ ap Some x.txn_is) (committed_below a x.last.txn x.last.by.committed)) in
            absurd (omega (arith, within, own.1, later))
      ]

  -- what is listed otherwise is listed otherwise there
  second_lists : IsOpFault RowsDiffer (joined a b) (moved a m) k (moved_op a was) row → IsOpFault RowsDiffer b m k was row
  second_lists differs = λ same. differs (same ∙ ap (listed was.statement row) (sym (viewed_second a b sound row fit was)))

  -- and so is what is written otherwise
  second_writes : IsOpFault WritesDiffer (joined a b) (moved a m) k (moved_op a was) row → IsOpFault WritesDiffer b m k was row
  second_writes (inl differs) = inl (λ same. differs (same ∙ ap (written was.statement row) (sym (viewed_second a b sound row fit was))))
  second_writes (inr stops) = inr (ap (fails was.statement row) (sym (viewed_second a b sound row fit was)) ∙ stops)

  -- what a fault of a moved operation is in the second part
  pub second_fault : (kind : OpFault) → IsOpFault kind (joined a b) (moved a m) k (moved_op a was) row → IsOpFault kind b m k was row
  second_fault Dangling f = second_dangling f
  second_fault AbortedRead f = second_aborted f
  second_fault IntermediateRead f = second_intermediate f
  second_fault OwnWriteMissed f = second_missed f
  second_fault LaterThanOwn f = second_later f
  second_fault RowsDiffer f = second_lists f
  second_fault WritesDiffer f = second_writes f
