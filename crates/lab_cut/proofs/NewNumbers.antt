-- New numbers of members that a mask keeps.
use Rattle.std.{proofs.{Common.{◌≡◌, ℕ, zero, suc, ◌+◌, ◌≤◌, ◌<◌, Bool, true, false, cond, List, [], ◌∷◌, length, Some, None, refl, sym, ap, ◌∙◌, arith, ne_eqb, eq-eqb}, lemmas.Option.{same_Some, none-some}}, specs.Prelude.{option_map, drop, slice_get}}
use Rattle.lab_history.{specs.Version.{place_in}, proofs.Greatest.{place_is_least}}
use Rattle.lab_cut.specs.{Left.{next_kept}, Kept.{new_numbers}}

-- numbers that lead back: each that isn't 0 stands once, and none is above how many there are
pub record LeadBack (numbers : List ℕ) : Type 0 where
  pub back : (k m : ℕ) → slice_get numbers k ≡ Some (suc m) → place_in numbers (suc m) ≡ Some (suc k)
  pub past : (k : ℕ) → slice_get numbers k ≡ None → place_in numbers (suc k) ≡ None

-- nothing stands past the end
none_past : (ns : List ℕ) (k : ℕ) → slice_get ns k ≡ None → length ns ≤ k
none_past [] k e = omega arith
none_past (n ∷ ns) zero e = absurd (none-some n (sym e))
none_past (n ∷ ns) (suc k) e = omega (arith, none_past ns k e)

-- a place behind another number's
pub place_behind : (head n p : ℕ) (ns : List ℕ) → (head ≡ n → ⊥) → place_in ns n ≡ Some p → place_in (head ∷ ns) n ≡ Some (suc p)
place_behind head n p ns apart e = ap (λ b. cond b (Some 1) (option_map (λ q. suc q) (place_in ns n))) (ne_eqb head n apart) ∙ ap (option_map (λ q. suc q)) e

none_behind : (head n : ℕ) (ns : List ℕ) → (head ≡ n → ⊥) → place_in ns n ≡ None → place_in (head ∷ ns) n ≡ None
none_behind head n ns apart e = ap (λ b. cond b (Some 1) (option_map (λ q. suc q) (place_in ns n))) (ne_eqb head n apart) ∙ ap (option_map (λ q. suc q)) e

pub place_first : (head n : ℕ) (ns : List ℕ) → head ≡ n → place_in (head ∷ ns) n ≡ Some 1
place_first head n ns same = ap (λ b. cond b (Some 1) (option_map (λ q. suc q) (place_in ns n))) (eq-eqb head n same)

module _ {A : Type 0} where
  -- what they are above, where one is kept and where one goes
  above_kept : (xs : List A) (last : ℕ) (mask : List Bool) (i m : ℕ) → ((j : ℕ) → slice_get (new_numbers (last + 1) mask xs) j ≡ Some (suc m) → last + 1 ≤ m)
      → slice_get ((last + 1) ∷ new_numbers (last + 1) mask xs) i ≡ Some (suc m) → last ≤ m
  above_kept xs last mask zero m rest e = let same = same_Some (last + 1) (suc m) e in omega arith
  above_kept xs last mask (suc i) m rest e = let more = rest i e in omega arith

  above_gone : (xs : List A) (last : ℕ) (mask : List Bool) (i m : ℕ) → ((j : ℕ) → slice_get (new_numbers last mask xs) j ≡ Some (suc m) → last ≤ m)
      → slice_get (0 ∷ new_numbers last mask xs) i ≡ Some (suc m) → last ≤ m
  above_gone xs last mask zero m rest e = let same = same_Some 0 (suc m) e in absurd (omega arith)
  above_gone xs last mask (suc i) m rest e = rest i e

  -- they count on
  pub above : (xs : List A) (last : ℕ) (mask : List Bool) (i m : ℕ) → slice_get (new_numbers last mask xs) i ≡ Some (suc m) → last ≤ m
  above [] last mask i m = λ e. absurd (none-some (suc m) e)
  above (x ∷ xs) last mask i m =
      elim (next_kept mask) as (λ b. slice_get (cond b ((last + 1) ∷ new_numbers (last + 1) (drop 1 mask) xs) (0 ∷ new_numbers last (drop 1 mask) xs)) i ≡ Some (suc m) → last ≤ m) [
        | true ↦ above_kept xs last (drop 1 mask) i m (λ j. above xs (last + 1) (drop 1 mask) j m)
        | false ↦ above_gone xs last (drop 1 mask) i m (λ j. above xs last (drop 1 mask) j m)
      ]

  -- one that has a place is above the last
  pub placed_above : (xs : List A) (last : ℕ) (mask : List Bool) (m p : ℕ) → place_in (new_numbers last mask xs) (suc m) ≡ Some p → last ≤ m
  placed_above xs last mask m p e =
      let place = place_is_least (new_numbers last mask xs) (suc m) p e in
      above xs last mask place.0.0 m place.0.2

  -- as many as members
  pub length-new_numbers : (xs : List A) (last : ℕ) (mask : List Bool) → length (new_numbers last mask xs) ≡ length xs
  length-new_numbers [] last mask = refl
  length-new_numbers (x ∷ xs) last mask =
      elim (next_kept mask) as (λ b. length (cond b ((last + 1) ∷ new_numbers (last + 1) (drop 1 mask) xs) (0 ∷ new_numbers last (drop 1 mask) xs)) ≡ suc (length xs)) [
        | true ↦ ap (λ n. suc n) (length-new_numbers xs (last + 1) (drop 1 mask))
        | false ↦ ap (λ n. suc n) (length-new_numbers xs last (drop 1 mask))
      ]

  -- one that is kept stands once, and so do those behind it
  once_kept : (xs : List A) (last : ℕ) (mask : List Bool) (k m : ℕ) → ((j : ℕ) → slice_get (new_numbers (last + 1) mask xs) j ≡ Some (suc m) → place_in (new_numbers (last + 1) mask xs) (suc m) ≡ Some (suc j))
      → slice_get ((last + 1) ∷ new_numbers (last + 1) mask xs) k ≡ Some (suc m) → place_in ((last + 1) ∷ new_numbers (last + 1) mask xs) (suc m) ≡ Some (suc k)
  once_kept xs last mask zero m rest e = place_first (last + 1) (suc m) (new_numbers (last + 1) mask xs) (same_Some (last + 1) (suc m) e)
  once_kept xs last mask (suc k) m rest e =
      let more : last + 1 ≤ m = above xs (last + 1) mask k m e in
      place_behind (last + 1) (suc m) (suc k) (new_numbers (last + 1) mask xs) (λ same. omega arith) (rest k e)

  once_gone : (xs : List A) (last : ℕ) (mask : List Bool) (k m : ℕ) → ((j : ℕ) → slice_get (new_numbers last mask xs) j ≡ Some (suc m) → place_in (new_numbers last mask xs) (suc m) ≡ Some (suc j))
      → slice_get (0 ∷ new_numbers last mask xs) k ≡ Some (suc m) → place_in (0 ∷ new_numbers last mask xs) (suc m) ≡ Some (suc k)
  once_gone xs last mask zero m rest e = let same = same_Some 0 (suc m) e in absurd (omega arith)
  once_gone xs last mask (suc k) m rest e = place_behind 0 (suc m) (suc k) (new_numbers last mask xs) (λ same. omega arith) (rest k e)

  -- each stands once
  stands_once : (xs : List A) (last : ℕ) (mask : List Bool) (k m : ℕ) → slice_get (new_numbers last mask xs) k ≡ Some (suc m) → place_in (new_numbers last mask xs) (suc m) ≡ Some (suc k)
  stands_once [] last mask k m = λ e. absurd (none-some (suc m) e)
  stands_once (x ∷ xs) last mask k m =
      elim (next_kept mask) as (λ b. slice_get (cond b ((last + 1) ∷ new_numbers (last + 1) (drop 1 mask) xs) (0 ∷ new_numbers last (drop 1 mask) xs)) k ≡ Some (suc m)
      → place_in (cond b ((last + 1) ∷ new_numbers (last + 1) (drop 1 mask) xs) (0 ∷ new_numbers last (drop 1 mask) xs)) (suc m) ≡ Some (suc k)) [
        | true ↦ once_kept xs last (drop 1 mask) k m (λ j. stands_once xs (last + 1) (drop 1 mask) j m)
        | false ↦ once_gone xs last (drop 1 mask) k m (λ j. stands_once xs last (drop 1 mask) j m)
      ]

  -- none is above how many there are
  none_above : (xs : List A) (last : ℕ) (mask : List Bool) (n : ℕ) → last + length xs < n → place_in (new_numbers last mask xs) n ≡ None
  none_above [] last mask n lt = refl
  none_above (x ∷ xs) last mask n lt =
      elim (next_kept mask) as (λ b. place_in (cond b ((last + 1) ∷ new_numbers (last + 1) (drop 1 mask) xs) (0 ∷ new_numbers last (drop 1 mask) xs)) n ≡ None) [
        | true ↦ none_behind (last + 1) n (new_numbers (last + 1) (drop 1 mask) xs) (λ same. omega arith) (none_above xs (last + 1) (drop 1 mask) n (omega arith))
        | false ↦ none_behind 0 n (new_numbers last (drop 1 mask) xs) (λ same. omega arith) (none_above xs last (drop 1 mask) n (omega arith))
      ]

  pub lead_back : (mask : List Bool) (xs : List A) → LeadBack (new_numbers 0 mask xs)
  lead_back mask xs = record {
    back = stands_once xs 0 mask;
    past = λ k e.
        let long = none_past (new_numbers 0 mask xs) k e in
        let same = length-new_numbers xs 0 mask in
        none_above xs 0 mask (suc k) (omega arith);
  }
