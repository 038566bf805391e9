-- The last write of a row is the greatest place of an operation that writes it; a number's place in a list is the least.
use Rattle.std.{proofs.{Common.{◌≡◌, ℕ, zero, suc, ◌+◌, ◌≤◌, ◌==◌, Bool, true, false, cond, List, [], ◌∷◌, Option, Some, None, is_some, option_map, refl, sym, ap, subst, ◌∙◌, arith, inl, inr}, lemmas.Bool.{cases_Bool, eqb-true, eq-eqb, false≢true}}, specs.Option.{option_or}}
use Rattle.lab_table.specs.Row.{Row}
use Rattle.lab_history.specs.{Version.{new_state, last_write, WritesAt, IsLastWrite, place_in, StandsAt, IsPlaceOf}, declared.operation.Op.{Op}}

-- ---- last writes

-- what was found is the last write, and where nothing was found nothing is written
abbrev IsFound : List Op → Row → Option ℕ → Type 0
IsFound ops row None = (k : ℕ) → WritesAt ops k row → ⊥
IsFound ops row (Some k) = IsLastWrite ops row k

module _ (row : Row) (op : Op) (ops : List Op) where
  -- behind an operation that writes the row, or doesn't
  first_found : (b : Bool) → is_some (new_state op row) ≡ b → IsFound ops row None → IsFound (op ∷ ops) row (cond b (Some 1) None)
  first_found true writes none = ((op, refl, writes), below)
    where
      below : (later : ℕ) → WritesAt (op ∷ ops) later row → later ≤ 1
      below zero at = omega arith
      below (suc zero) at = omega arith
      below (suc (suc l)) at = absurd (none (suc l) at)
  first_found false writes none = nothing
    where
      nothing : (k : ℕ) → WritesAt (op ∷ ops) k row → ⊥
      nothing zero at = let e = at.1 in absurd cc
      nothing (suc zero) at =
          let e = at.1 in
          let same : at.0 ≡ op = cc in
          false≢true (sym writes ∙ subst (λ o. is_some (new_state o row) ≡ true) same at.2)
      nothing (suc (suc l)) at = none (suc l) at

  more_found : (found : Option ℕ) → IsFound ops row found → IsFound (op ∷ ops) row (option_or (option_map (λ k. suc k) found) (cond (is_some (new_state op row)) (Some 1) None))
  more_found None is = first_found (is_some (new_state op row)) refl is
  more_found (Some zero) is = let e = is.0.1 in absurd cc
  more_found (Some (suc i)) is = (is.0, below)
    where
      below : (later : ℕ) → WritesAt (op ∷ ops) later row → later ≤ suc (suc i)
      below zero at = omega arith
      below (suc zero) at = omega arith
      below (suc (suc l)) at = let le = is.1 (suc l) at in omega arith

last_found : (ops : List Op) (row : Row) → IsFound ops row (last_write ops row)
last_found [] row = none
  where
    none : (k : ℕ) → WritesAt [] k row → ⊥
    none zero at = let e = at.1 in absurd cc
    none (suc k) at = let e = at.1 in absurd cc
last_found (op ∷ ops) row = more_found row op ops (last_write ops row) (last_found ops row)

module _ (ops : List Op) (row : Row) where
  is_last : (found : Option ℕ) (k : ℕ) → IsFound ops row found → IsLastWrite ops row k → found ≡ Some k
  is_last None k is last = absurd (is k last.0)
  is_last (Some j) k is last =
      let low = is.1 k last.0 in
      let high = last.1 j is.0 in
      let same : j ≡ k = omega arith in
      ap (λ n. Some n) same

  is_none : (found : Option ℕ) → IsFound ops row found → ((k : ℕ) → WritesAt ops k row → ⊥) → found ≡ None
  is_none None is none = refl
  is_none (Some k) is none = absurd (none k is.0)

  -- the last write is the greatest
  pub last_is_greatest : (k : ℕ) → last_write ops row ≡ Some k → IsLastWrite ops row k
  last_is_greatest k e = subst (IsFound ops row) e (last_found ops row)

  pub greatest_is_last : (k : ℕ) → IsLastWrite ops row k → last_write ops row ≡ Some k
  greatest_is_last k last = is_last (last_write ops row) k (last_found ops row) last

  pub none_is_written : last_write ops row ≡ None → (k : ℕ) → WritesAt ops k row → ⊥
  none_is_written e = subst (IsFound ops row) e (last_found ops row)

  pub none_written : ((k : ℕ) → WritesAt ops k row → ⊥) → last_write ops row ≡ None
  none_written none = is_none (last_write ops row) (last_found ops row) none

-- ---- places

-- what was found is the place, and where nothing was found the number isn't in the list
abbrev IsPlaced : List ℕ → ℕ → Option ℕ → Type 0
IsPlaced ns n None = (p : ℕ) → StandsAt ns p n → ⊥
IsPlaced ns n (Some p) = IsPlaceOf ns n p

module _ (n m : ℕ) (ms : List ℕ) where
  more_placed : (m == n) ≡ false → (found : Option ℕ) → IsPlaced ms n found → IsPlaced (m ∷ ms) n (option_map (λ p. suc p) found)
  more_placed isnt None is = nothing
    where
      nothing : (p : ℕ) → StandsAt (m ∷ ms) p n → ⊥
      nothing p (zero, counted, e) = let same : m ≡ n = cc in false≢true (sym isnt ∙ eq-eqb m n same)
      nothing p (suc i, counted, e) = is (i + 1) (i, refl, e)
  more_placed isnt (Some j) is = let at : j ≡ is.0.0 + 1 = is.0.1 in ((suc is.0.0, omega arith, is.0.2), above)
    where
      above : (other : ℕ) → StandsAt (m ∷ ms) other n → suc j ≤ other
      above other (zero, counted, e) = let same : m ≡ n = cc in absurd (false≢true (sym isnt ∙ eq-eqb m n same))
      above other (suc i, counted, e) = let le = is.1 (i + 1) (i, refl, e) in omega arith

  here_placed : m ≡ n → IsPlaceOf (m ∷ ms) n 1
  here_placed same = ((0, refl, ap (λ k. Some k) same), λ other stands. let counted : other ≡ stands.0 + 1 = stands.1 in omega arith)

placed : (ns : List ℕ) (n : ℕ) → IsPlaced ns n (place_in ns n)
placed [] n = λ p stands. let e = stands.2 in absurd cc
placed (m ∷ ms) n =
    elim (cases_Bool (m == n)) [
      | inl is ↦ subst (λ (b : Bool). IsPlaced (m ∷ ms) n (cond b (Some 1) (option_map (λ p. suc p) (place_in ms n)))) (sym is) (here_placed n m ms (eqb-true m n is))
      | inr isnt ↦ subst (λ (b : Bool). IsPlaced (m ∷ ms) n (cond b (Some 1) (option_map (λ p. suc p) (place_in ms n)))) (sym isnt) (more_placed n m ms isnt (place_in ms n) (placed ms n))
    ]

module _ (ns : List ℕ) (n : ℕ) where
  is_place : (found : Option ℕ) (p : ℕ) → IsPlaced ns n found → IsPlaceOf ns n p → found ≡ Some p
  is_place None p is place = absurd (is p place.0)
  is_place (Some q) p is place =
      let low = is.1 p place.0 in
      let high = place.1 q is.0 in
      let same : q ≡ p = omega arith in
      ap (λ k. Some k) same

  is_missing : (found : Option ℕ) → IsPlaced ns n found → ((p : ℕ) → StandsAt ns p n → ⊥) → found ≡ None
  is_missing None is none = refl
  is_missing (Some p) is none = absurd (none p is.0)

  -- the place that is found is the least
  pub place_is_least : (p : ℕ) → place_in ns n ≡ Some p → IsPlaceOf ns n p
  place_is_least p e = subst (IsPlaced ns n) e (placed ns n)

  pub least_is_place : (p : ℕ) → IsPlaceOf ns n p → place_in ns n ≡ Some p
  least_is_place p place = is_place (place_in ns n) p (placed ns n) place

  pub none_is_placed : place_in ns n ≡ None → (p : ℕ) → StandsAt ns p n → ⊥
  none_is_placed e = subst (IsPlaced ns n) e (placed ns n)

  pub none_placed : ((p : ℕ) → StandsAt ns p n → ⊥) → place_in ns n ≡ None
  none_placed none = is_missing (place_in ns n) (placed ns n) none
