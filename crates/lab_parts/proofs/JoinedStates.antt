-- The states of a row in two parts that fit: those of the first, and from its end on those of the second.
use Rattle.std.{proofs.{Common.{◌≡◌, ℕ, zero, suc, ◌+◌, ◌≤◌, Option, Some, None, [], map, length, ◌⊎◌, inl, inr, refl, sym, ap, ◌∙◌, arith}, lemmas.Option.{none-some, slice_get-map, slice_get-get_or}}, specs.{Prelude.{slice_get, get_or, unwrap_or, option_map, option_and_then}, FinMap.{get}}}
use Rattle.lab_table.specs.Row.{Row}
use Rattle.lab_history.specs.{History.{History}, Version.{ops_of, op_at, viewed, viewed_state, version_state, new_state, last_write, left_state, installers, state_at}, declared.operation.{Op.{Op}, VersionName.{VersionName, TheVariants.{Initial, Of}}}}
use Rattle.lab_deps.specs.Soundness.{IsSound, IsCommittedOp}
use Rattle.lab_parts.specs.Whole.{moved, left_version, seam_version, moved_version, moved_op, joined}
use Rattle.lab_parts.proofs.{JoinedTxns.{version_first, version_second, ops_first, last_second, committed_below}, JoinedLists.{at_left, at_right, last_of}, JoinedInstallers.{installers-joined, viewed-moved}, SoundParts.{Installer, installer, ended, sees_below}}

-- the state that an installer leaves
left_is : (h : History) (row : Row) (n : ℕ) (x : Installer h row n) → left_state h n row ≡ Some x.state
left_is h row n x = ap (option_and_then (λ k. version_state h row (Of n k))) x.last_is ∙ x.state_is

-- the state behind the place of an installer
pub installed_state : (h : History) (row : Row) (p n : ℕ) (x : Installer h row n) → slice_get (installers h row) p ≡ Some n → state_at h row (suc p) ≡ x.state
installed_state h row p n x at = ap (λ o. unwrap_or (option_and_then (λ m. left_state h m row) o) None) at ∙ ap (λ o. unwrap_or o None) (left_is h row n x)

-- the last installer of a row, whose version stands at the seam
pub record LastInstaller (a : History) (row : Row) : Type 0 where
  pub place : ℕ
  pub txn : ℕ
  pub count_is : length (installers a row) ≡ suc place
  pub at : slice_get (installers a row) place ≡ Some txn
  pub by : Installer a row txn
  pub seam_is : seam_version a row ≡ Of txn by.place

-- nobody installed the row, and the seam is at its initial version
pub record NoInstaller (a : History) (row : Row) : Type 0 where
  pub none : installers a row ≡ []
  pub seam_is : seam_version a row ≡ Initial

module _ (a : History) (sound : IsSound a) (row : Row) where
  pub seam_of : NoInstaller a row ⊎ LastInstaller a row
  seam_of = elim (last_of (installers a row) None) [
    | inl w ↦ inl (record { none = w.0; seam_is = ap (left_version a row) w.1 })
    | inr w ↦
        let x : Installer a row w.1 = installer a sound row w.0 w.1 w.3 in
        inr (record { place = w.0; txn = w.1; count_is = w.2; at = w.3; by = x; seam_is = ap (left_version a row) w.4 ∙ ap (λ o. Of w.1 (unwrap_or o 0)) x.last_is })
  ]

  -- the version at the seam has the state in the end of the first part
  pub seam_state : (b : History) → version_state (joined a b) row (seam_version a row) ≡ Some (get a.end_table row)
  seam_state b = of seam_of ∙ ap Some (sym (ended a sound row))
    where
      of : NoInstaller a row ⊎ LastInstaller a row → version_state (joined a b) row (seam_version a row) ≡ Some (state_at a row (length (installers a row)))
      of (inl x) = ap (version_state (joined a b) row) x.seam_is ∙ ap (λ ns. Some (state_at a row (length ns))) (sym x.none)
      of (inr x) =
          ap (version_state (joined a b) row) x.seam_is ∙ version_first a b x.txn x.by.place row (committed_below a x.txn x.by.committed) ∙ x.by.state_is
          ∙ ap Some (sym (ap (state_at a row) x.count_is ∙ installed_state a row x.place x.txn x.by x.at))

-- a transaction's operations alone say what it leaves
left_by_ops : (h g : History) (n m : ℕ) (row : Row) → ops_of h n ≡ ops_of g m → left_state h n row ≡ left_state g m row
left_by_ops h g n m row e = ap (λ ops. option_and_then (λ k. option_and_then (λ op. new_state op row) (op_at ops k)) (last_write ops row)) e

left_second : (a b : History) (m : ℕ) (row : Row) → left_state (joined a b) (moved a m) row ≡ left_state b m row
left_second a b m row =
    ap (option_and_then (λ k. version_state (joined a b) row (Of (moved a m) k))) (last_second a b m row)
    ∙ each (last_write (ops_of b m) row)
  where
    each : (o : Option ℕ) → option_and_then (λ k. version_state (joined a b) row (Of (moved a m) k)) o ≡ option_and_then (λ k. version_state b row (Of m k)) o
    each None = refl
    each (Some k) = version_second a b m k row

module _ (a b : History) (sound : IsSound a) (row : Row) where
  -- before the end of the first part the states are its own
  pub state_first : (p : ℕ) → p ≤ length (installers a row) → state_at (joined a b) row p ≡ state_at a row p
  state_first zero within = refl
  state_first (suc p) within = of (slice_get (installers a row) p) refl
    where
      of : (o : Option ℕ) → slice_get (installers a row) p ≡ o → state_at (joined a b) row (suc p) ≡ state_at a row (suc p)
      of None at = absurd (none-some (get_or (installers a row) p 0) (sym at ∙ slice_get-get_or (installers a row) p 0 (omega (arith, within))))
      of (Some n) at =
          let x = installer a sound row p n at in
          ap (λ ns. unwrap_or (option_and_then (λ m. left_state (joined a b) m row) (slice_get ns p)) None) (installers-joined a b row)
          ∙ ap (λ o. unwrap_or (option_and_then (λ m. left_state (joined a b) m row) o) None) (at_left (installers a row) (map (moved a) (installers b row)) p n at)
          ∙ ap (λ s. unwrap_or s None) (left_by_ops (joined a b) a n n row (ops_first a b n (committed_below a n x.committed)))
          ∙ ap (λ o. unwrap_or (option_and_then (λ m. left_state a m row) o) None) (sym at)

  -- from there on they are those of the second
  pub state_second : a.end_table ≡ b.initial → (p q : ℕ) → p ≡ length (installers a row) + q → state_at (joined a b) row p ≡ state_at b row q
  state_second fit p zero e =
      let at_end : p ≡ length (installers a row) = omega (arith, e) in
      state_first p (omega (arith, at_end)) ∙ ap (state_at a row) at_end ∙ sym (ended a sound row) ∙ ap (λ t. get t row) fit
  state_second fit zero (suc q) e = absurd (omega arith)
  state_second fit (suc p) (suc q) e =
      ap (λ o. unwrap_or (option_and_then (λ m. left_state (joined a b) m row) o) None)
      (ap (λ ns. slice_get ns p) (installers-joined a b row) ∙ at_right (installers a row) (map (moved a) (installers b row)) p q (omega (arith, e)) ∙ slice_get-map (moved a) (installers b row) q)
      ∙ of (slice_get (installers b row) q)
    where
      of : (o : Option ℕ) → unwrap_or (option_and_then (λ m. left_state (joined a b) m row) (option_map (moved a) o)) None ≡ unwrap_or (option_and_then (λ m. left_state b m row) o) None
      of None = refl
      of (Some n) = ap (λ s. unwrap_or s None) (left_second a b n row)

  -- what a committed operation of the first part sees has the state that it has there
  pub viewed_first : (n k : ℕ) (op : Op) → IsCommittedOp a n k op → viewed_state (joined a b) op row ≡ viewed_state a op row
  viewed_first n k op is_op = ap (λ s. unwrap_or s None) (of (viewed op row) refl)
    where
      of : (v : VersionName) → viewed op row ≡ v → version_state (joined a b) row v ≡ version_state a row v
      of Initial e = refl
      of (Of m j) e = version_first a b m j row (sees_below a sound n k op row m j is_op e)

  -- and so has what a moved operation sees
  pub viewed_second : a.end_table ≡ b.initial → (op : Op) → viewed_state (joined a b) (moved_op a op) row ≡ viewed_state b op row
  viewed_second fit op = ap (λ s. unwrap_or s None) (ap (version_state (joined a b) row) (viewed-moved a b row op) ∙ of (viewed op row))
    where
      of : (v : VersionName) → version_state (joined a b) row (moved_version a row v) ≡ version_state b row v
      of Initial = seam_state a sound row b ∙ ap (λ t. Some (get t row)) fit
      of (Of m j) = version_second a b m j row
