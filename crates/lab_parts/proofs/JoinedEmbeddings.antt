-- Each of two parts stands in both together: the first with its own numbers, the second behind it.
use Rattle.std.{proofs.{Common.{◌≡◌, ℕ, suc, ◌+◌, ◌<◌, ◌==◌, Bool, true, false, cond, Some, None, map, length, ◌⊎◌, inl, inr, refl, sym, ap, ◌∙◌, arith, zero-add}, lemmas.Bool.{ne_eqb}}, specs.Prelude.{slice_get, option_map}}
use Rattle.lab_table.{specs.{Row.{Row}, Statement.{matches}, declared.statement.Statement.{Statement}}, proofs.Tests.{mapped_some}}
use Rattle.lab_history.specs.{History.{History}, Version.{viewed, installers, place_in}, declared.operation.{Op.{Op}, VersionName.{VersionName, TheVariants.{Initial, Of}}}}
use Rattle.lab_deps.specs.{Soundness.{IsSound, IsCommittedOp}, Edges.{differ, changes, place_of, SeesPlace}}
use Rattle.lab_parts.specs.Whole.{above_all, moved, seam_version, moved_version, moved_op, joined}
use Rattle.lab_parts.proofs.JoinedTxns.{same_behind, op_first, op_second, op_from_second, committed_below}
use Rattle.lab_parts.proofs.JoinedLists.{at_left, at_right, at_moved}
use Rattle.lab_parts.proofs.JoinedPlaces.{place_joined_low, place_joined_high, place_once}
use Rattle.lab_parts.proofs.JoinedInstallers.{installers-joined, viewed-moved}
use Rattle.lab_parts.proofs.JoinedStates.{NoInstaller, LastInstaller, seam_of, state_first, state_second}
use Rattle.lab_parts.proofs.JoinedInstalls.{first_at, second_at}
use Rattle.lab_parts.proofs.SoundParts.{counted_once, sees_below, installers_below}
use Rattle.lab_parts.proofs.Embeddings.{Embeds, SeesUp}

module _ (a b : History) (sound : IsSound a) where
  -- what a committed operation of the first part sees has the place that it has there
  place_first : (n k : ℕ) (op : Op) (row : Row) → IsCommittedOp a n k op → place_of (joined a b) n row (viewed op row) ≡ place_of a n row (viewed op row)
  place_first n k op row is_op = of (viewed op row) refl
    where
      of : (v : VersionName) → viewed op row ≡ v → place_of (joined a b) n row v ≡ place_of a n row v
      of Initial e = refl
      of (Of m j) e =
          ap (cond (m == n) None)
          (ap (λ ns. place_in ns m) (installers-joined a b row) ∙ place_joined_low (above_all a.txns) m (installers a row) (installers b row) (sees_below a sound n k op row m j is_op e))

  changes_first : (s : Statement) (row : Row) (p : ℕ) → p < length (installers a row) → changes (joined a b) s row p ≡ changes a s row p
  changes_first s row p within = λ i. differ (matches s row (state_first a b sound row p (omega (arith, within)) i)) (matches s row (state_first a b sound row (suc p) (omega (arith, within)) i))

  pub first_embeds : Embeds a (joined a b) (λ n. n) (λ op. op) (λ _. 0)
  first_embeds = record {
    installs_up = λ row p n at.
        ap (λ i. slice_get (installers (joined a b) row) i) (zero-add p) ∙ ap (λ ns. slice_get ns p) (installers-joined a b row) ∙ at_left (installers a row) (map (moved a) (installers b row)) p n at;
    installs_down = λ row p n committed at. record { place = p; place_is = sym (zero-add p); installs = first_at a b row p n at (committed_below a n committed) };
    sees_up = λ n op row v committed sees.
        let is_op : IsCommittedOp a n sees.0.0 op = (committed, sees.0.1) in
        ((sees.0.0, op_first a b n sees.0.0 (committed_below a n committed) ∙ sees.0.1), place_first n sees.0.0 op row is_op ∙ sees.1 ∙ ap Some (sym (zero-add v)));
    sees_down = λ n op row v committed sees.
        let there = sym (op_first a b n sees.0.0 (committed_below a n committed)) ∙ sees.0.1 in
        record { was = op; op_is = refl; place = v; place_is = sym (zero-add v); sees = ((sees.0.0, there), sym (place_first n sees.0.0 op row (committed, there)) ∙ sees.1) };
    changes_same = λ s row p within. ap (changes (joined a b) s row) (zero-add p) ∙ changes_first s row p within;
    statement_same = λ op. refl;
    rows_same = λ op. refl;
  }

  -- what a moved operation sees has its place behind the first part's installers
  module _ (n : ℕ) (row : Row) where
    place_moved : (m j : ℕ) → place_of (joined a b) (moved a n) row (Of (moved a m) j) ≡ option_map (λ p. length (installers a row) + p) (place_of b n row (Of m j))
    place_moved m j =
        (λ i. cond (same_behind (above_all a.txns) m n i) None
        ((ap (λ ns. place_in ns (moved a m)) (installers-joined a b row) ∙ place_joined_high (above_all a.txns) m (installers a row) (installers b row) (installers_below a sound row)) i))
        ∙ of (m == n)
      where
        of : (t : Bool) → cond t None (option_map (λ p. length (installers a row) + p) (place_in (installers b row) m)) ≡ option_map (λ p. length (installers a row) + p) (cond t None (place_in (installers b row) m))
        of true = refl
        of false = refl

    place_seam : NoInstaller a row ⊎ LastInstaller a row → place_of (joined a b) (moved a n) row (seam_version a row) ≡ Some (length (installers a row) + 0)
    place_seam (inl x) = ap (place_of (joined a b) (moved a n) row) x.seam_is ∙ ap Some (omega (arith, ap length x.none))
    place_seam (inr x) =
        let low : x.txn < above_all a.txns = committed_below a x.txn x.by.committed in
        ap (place_of (joined a b) (moved a n) row) x.seam_is
        ∙ ap (λ t. cond t None (place_in (installers (joined a b) row) x.txn)) (ne_eqb x.txn (moved a n) (omega (arith, low)))
        ∙ ap (λ ns. place_in ns x.txn) (installers-joined a b row) ∙ place_joined_low (above_all a.txns) x.txn (installers a row) (installers b row) low
        ∙ place_once (installers a row) x.place x.txn (counted_once a sound row x.txn) x.at ∙ ap Some (omega (arith, x.count_is))

    place_second : (op : Op) → place_of (joined a b) (moved a n) row (viewed (moved_op a op) row) ≡ option_map (λ p. length (installers a row) + p) (place_of b n row (viewed op row))
    place_second op = ap (place_of (joined a b) (moved a n) row) (viewed-moved a b row op) ∙ of (viewed op row)
      where
        of : (v : VersionName) → place_of (joined a b) (moved a n) row (moved_version a row v) ≡ option_map (λ p. length (installers a row) + p) (place_of b n row v)
        of Initial = place_seam (seam_of a sound row)
        of (Of m j) = place_moved m j

  module _ (fit : a.end_table ≡ b.initial) where
    changes_second : (s : Statement) (row : Row) (p : ℕ) → changes (joined a b) s row (length (installers a row) + p) ≡ changes b s row p
    changes_second s row p = λ i. differ (matches s row (state_second a b sound row fit (length (installers a row) + p) p refl i))
        (matches s row (state_second a b sound row fit (suc (length (installers a row) + p)) (suc p) (omega arith) i))

    sees_moved : (n : ℕ) (op : Op) (row : Row) (v : ℕ) → SeesPlace (joined a b) (moved a n) op row v → SeesUp b (moved_op a) (λ row. length (installers a row)) n op row v
    sees_moved n op row v ((k, is_op), place) =
        let from = op_from_second a b n k op is_op in
        let seen = mapped_some (λ p. length (installers a row) + p) (place_of b n row (viewed from.0 row)) v
        (sym (place_second n row from.0) ∙ ap (λ (o : Op). place_of (joined a b) (moved a n) row (viewed o row)) (sym from.2) ∙ place) in
        record { was = from.0; op_is = from.2; place = seen.0; place_is = sym seen.2; sees = ((k, from.1), seen.1) }

    pub second_embeds : Embeds b (joined a b) (moved a) (moved_op a) (λ row. length (installers a row))
    second_embeds = record {
      installs_up = λ row p n at.
          ap (λ ns. slice_get ns (length (installers a row) + p)) (installers-joined a b row) ∙ at_right (installers a row) (map (moved a) (installers b row)) (length (installers a row) + p) p refl
          ∙ at_moved (above_all a.txns) (installers b row) p n at;
      installs_down = λ row p n committed at. let there = second_at a b sound row p n at in record { place = there.0; place_is = there.1; installs = there.2 };
      sees_up = λ n op row v committed sees.
          ((sees.0.0, op_second a b n sees.0.0 ∙ ap (option_map (moved_op a)) sees.0.1), place_second n row op ∙ ap (option_map (λ p. length (installers a row) + p)) sees.1);
      sees_down = λ n op row v committed sees. sees_moved n op row v sees;
      changes_same = λ s row p within. changes_second s row p;
      statement_same = λ op. refl;
      rows_same = λ op. refl;
    }
