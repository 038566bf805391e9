-- Where a row's installers aren't its committed writers, one is found to be out of place, and is.
use Rattle.std.proofs.{Common.{◌≡◌, ℕ, zero, suc, ◌+◌, ◌≤◌, ◌==◌, Bool, true, false, cond, Option, Some, None, List, [], ◌∷◌, refl, sym, ap, ◌∙◌, ◌⊎◌, subst, arith, inl, inr}, lemmas.{Bool.{false≢true, eqb-true, eq-eqb, and_parts, and_from}, Option.{none-some, same_Some}}}
use Rattle.std.specs.{Prelude.{slice_get, is_none, codes}, Option.{option_or}}
use Rattle.lab_table.specs.Row.{Row}
use Rattle.lab_history.specs.{History.{History}, Version.{find_txn, installers, outcome_of, place_in, writes_row, is_at, is_missing}, declared.transaction.Txn.{Txn}}
use Rattle.lab_deps.specs.{FaultOrder.{IsFirst}, Soundness.{InstallsOther, has_committed, is_writer}, declared.fault.LocalFault.TheVariants.{InstallOrder}}
use Rattle.lab_deps.proofs.{BrokenStands.{decides_none}, Found.{committed, committed_there}, Places.{times, times_count, at_times, apart_times, at_most_once, place_there, no_place, next, here, start}}
use Rattle.lab_judge.specs.{Judgement.{IsSerialVerdict, IsExactJudgement}, ReportText.{line_text, serial_text}, declared.{report.Report.{Report}, serial.Serial.TheVariants.{NoFault}}}
use Rattle.lab_drawing.specs.Installs.{is_left_out, first_left_out, misplaced_at, wrong_at, first_wrong, misplaced_of, misplaced_text}
use Rattle.lab_drawing.specs.InstallLaws.{IsOut, NamesOut, times_installed}
use Rattle.lab_drawing.specs.Sketch.{of_installs, of_serial, drawing_of}
use Rattle.lab_drawing.specs.declared.installs.{Misplaced.{Misplaced}, Why.{Why, TheVariants.{Missing, Unwritten, Repeated}}}

-- what is the first of two that is there
either_found : {A : Type 0} (a b : Option A) (x : A) → option_or a b ≡ Some x → (a ≡ Some x) ⊎ ((a ≡ None) × (b ≡ Some x))
either_found None b x e = inr (refl, e)
either_found (Some y) b x e = inl e

neither_found : {A : Type 0} (a b : Option A) → option_or a b ≡ None → (a ≡ None) × (b ≡ None)
neither_found None b e = (refl, e)
neither_found (Some y) b e = absurd (none-some y (sym e))

-- a place that is found is that one
is_the_place : (o : Option ℕ) (p : ℕ) → is_at o p ≡ true → o ≡ Some p
is_the_place None p t = absurd (false≢true t)
is_the_place (Some q) p t = ap Some (eqb-true q p t)

-- a transaction as one that is left out
abbrev left : ℕ → Misplaced
left n = record { txn = n; why = Missing }

module _ (h : History) (row : Row) where
  -- ---- writers that are left out
  absent : (n : ℕ) → is_missing h n row ≡ true → times_installed h row n ≡ 0
  absent n t = sym (times_count n (installers h row)) ∙ no_place (installers h row) n ((decides_none (place_in (installers h row) n)).0 t)

  left_out_is : (n : ℕ) → is_left_out h row n ≡ true → IsOut h row n Missing
  left_out_is n t = let parts = and_parts (is_writer h row n) (is_missing h n row) t in (parts.0, absent n parts.1)

  is_left : (n : ℕ) → IsOut h row n Missing → is_left_out h row n ≡ true
  is_left n (writes, none) = and_from (is_writer h row n) (is_missing h n row) writes (gone (place_in (installers h row) n) refl)
    where
      gone : (o : Option ℕ) → place_in (installers h row) n ≡ o → is_none o ≡ true
      gone None e = refl
      gone (Some q) e =
          let w = place_there (installers h row) n q e in
          let some : 1 ≤ times n (installers h row) = at_times (installers h row) w.0 n w.2 in
          let counted : times n (installers h row) ≡ 0 = times_count n (installers h row) ∙ none in
          absurd (omega (arith, some, counted))

  -- one that is found is left out
  found_left : (ts : List Txn) (m : Misplaced) → first_left_out h row ts ≡ Some m → (m.why ≡ Missing) × IsOut h row m.txn m.why
  found_left [] m e = absurd (none-some m e)
  found_left (t ∷ ts) m e =
      elim (is_left_out h row t.no) as (λ b. is_left_out h row t.no ≡ b → cond b (Some (left t.no)) (first_left_out h row ts) ≡ Some m → (m.why ≡ Missing) × IsOut h row m.txn m.why) [
        | true ↦ λ out is. subst (λ (k : Misplaced). (k.why ≡ Missing) × IsOut h row k.txn k.why) (same_Some (left t.no) m is) (refl, left_out_is t.no out)
        | false ↦ λ _ later. found_left ts m later
      ] refl e

  -- where none is found, no transaction of the file is
  none_left : (ts : List Txn) → first_left_out h row ts ≡ None → (n : ℕ) (t : Txn) → find_txn ts n ≡ Some t → is_left_out h row n ≡ true → ⊥
  none_left [] e n t g out = absurd (none-some t g)
  none_left (u ∷ ts) e n t g out =
      elim (is_left_out h row u.no) as (λ b. is_left_out h row u.no ≡ b → cond b (Some (left u.no)) (first_left_out h row ts) ≡ None → ⊥) [
        | true ↦ λ _ is. none-some (left u.no) (sym is)
        | false ↦ λ not_first rest.
            elim (u.no == n) as (λ b. (u.no == n) ≡ b → cond b (Some u) (find_txn ts n) ≡ Some t → ⊥) [
              | true ↦ λ same _. false≢true (sym not_first ∙ (ap (is_left_out h row) (eqb-true u.no n same) ∙ out))
              | false ↦ λ _ later. none_left ts rest n t later out
            ] refl g
      ] refl e

  -- a writer that isn't an installer is left out, and a transaction of the file
  none_missing : first_left_out h row h.txns ≡ None → (n : ℕ) → IsOut h row n Missing → ⊥
  none_missing e n out =
      let parts = and_parts (has_committed (outcome_of h n)) (writes_row h n row) out.0 in
      let there = committed_there h n (committed (outcome_of h n) parts.0) in
      none_left h.txns e n there.0 there.1 (is_left n out)

  -- ---- installers with which something is wrong
  wrong_is : (i n : ℕ) (m : Misplaced) → slice_get (installers h row) i ≡ Some n → wrong_at h row (suc i) n ≡ Some m → IsOut h row m.txn m.why
  wrong_is i n m at e = by_cases (is_writer h row n) refl (place_in (installers h row) n) refl e
    where
      some : 1 ≤ times_installed h row n
      some = subst (λ k. 1 ≤ k) (times_count n (installers h row)) (at_times (installers h row) i n at)

      is_out : (why : Why) → Some (record { txn = n; why = why }) ≡ Some m → IsOut h row n why → IsOut h row m.txn m.why
      is_out why is out = subst (λ (k : Misplaced). IsOut h row k.txn k.why) (same_Some (record { txn = n; why = why }) m is) out

      twice : (o : Option ℕ) → place_in (installers h row) n ≡ o → is_at o (suc i) ≡ false → 2 ≤ times_installed h row n
      twice None absent_there t =
          let none : times_installed h row n ≡ 0 = sym (times_count n (installers h row)) ∙ no_place (installers h row) n absent_there in
          absurd (omega (arith, some, none))
      twice (Some q) found t =
          let w = place_there (installers h row) n q found in
          subst (λ k. 2 ≤ k) (times_count n (installers h row)) (apart_times (installers h row) w.0 i n w.2 at
          (λ same. false≢true (sym t ∙ eq-eqb q (suc i) (w.1 ∙ ap (λ k. suc k) same))))

      by_place : is_writer h row n ≡ true → (o : Option ℕ) → place_in (installers h row) n ≡ o → (b : Bool) → is_at o (suc i) ≡ b → misplaced_at n true b ≡ Some m → IsOut h row m.txn m.why
      by_place writes o found true first is = absurd (none-some m is)
      by_place writes o found false later is = is_out Repeated is (writes, twice o found later)

      by_cases : (b : Bool) → is_writer h row n ≡ b → (o : Option ℕ) → place_in (installers h row) n ≡ o → misplaced_at n b (is_at o (suc i)) ≡ Some m → IsOut h row m.txn m.why
      by_cases false writes o found is = is_out Unwritten is (writes, some)
      by_cases true writes o found is = by_place writes o found (is_at o (suc i)) refl is

  -- one that is found is one of them, at its place
  found_wrong : (k : ℕ) (ns : List ℕ) (m : Misplaced) → first_wrong h row k ns ≡ Some m → (i n : ℕ) × (slice_get ns i ≡ Some n) × (wrong_at h row (suc (k + i)) n ≡ Some m)
  found_wrong k [] m e = absurd (none-some m e)
  found_wrong k (n ∷ ns) m e =
      elim (either_found (wrong_at h row (k + 1) n) (first_wrong h row (k + 1) ns) m e) [
        | inl found ↦ (0, n, refl, ap (λ p. wrong_at h row p n) (sym (here k)) ∙ found)
        | inr rest ↦
            let later = found_wrong (k + 1) ns m rest.1 in
            (suc later.0, later.1, later.2, ap (λ p. wrong_at h row p later.1) (sym (next k later.0)) ∙ later.3)
      ]

  -- where none is found, nothing is wrong with any
  none_wrong : (k : ℕ) (ns : List ℕ) → first_wrong h row k ns ≡ None → (i n : ℕ) → slice_get ns i ≡ Some n → wrong_at h row (suc (k + i)) n ≡ None
  none_wrong k [] e i n g = absurd (none-some n g)
  none_wrong k (m ∷ ns) e zero n g =
      let parts = neither_found (wrong_at h row (k + 1) m) (first_wrong h row (k + 1) ns) e in
      ap (wrong_at h row (suc (k + 0))) (sym (same_Some m n g)) ∙ ap (λ p. wrong_at h row p m) (sym (here k)) ∙ parts.0
  none_wrong k (m ∷ ns) e (suc i) n g =
      let parts = neither_found (wrong_at h row (k + 1) m) (first_wrong h row (k + 1) ns) e in
      ap (λ p. wrong_at h row p n) (sym (next k i)) ∙ none_wrong (k + 1) ns parts.1 i n g

  -- an installer with which nothing is wrong is a writer at its first place
  right_is : (n p : ℕ) (b c : Bool) → misplaced_at n b c ≡ None → (b ≡ true) × (c ≡ true)
  right_is n p true true e = (refl, refl)
  right_is n p true false e = absurd (none-some (record { txn = n; why = Repeated }) (sym e))
  right_is n p false c e = absurd (none-some (record { txn = n; why = Unwritten }) (sym e))

  -- where nobody is found to be out of place, each number stands as often as is due
  module _ (none : misplaced_of h row ≡ None) where
    parted : (first_left_out h row h.txns ≡ None) × (first_wrong h row 0 (installers h row) ≡ None)
    parted = neither_found (first_left_out h row h.txns) (first_wrong h row 0 (installers h row)) none

    right_at : (i n : ℕ) → slice_get (installers h row) i ≡ Some n → (is_writer h row n ≡ true) × (place_in (installers h row) n ≡ Some (suc i))
    right_at i n g =
        let right = ap (λ p. wrong_at h row p n) (sym (start i)) ∙ none_wrong 0 (installers h row) parted.1 i n g in
        let both = right_is n (suc i) (is_writer h row n) (is_at (place_in (installers h row) n) (suc i)) right in
        (both.0, is_the_place (place_in (installers h row) n) (suc i) both.1)

    as_due : (n : ℕ) → times_installed h row n ≡ cond (is_writer h row n) 1 0
    as_due n = by_place (place_in (installers h row) n) refl
      where
        unwritten : (b : Bool) → (b ≡ true → ⊥) → (m : ℕ) → m ≡ 0 → m ≡ cond b 1 0
        unwritten true denied m e = absurd (denied refl)
        unwritten false denied m e = e

        same_place : (i j : ℕ) → suc i ≡ suc j → i ≡ j
        same_place i j e = omega arith

        once : (m : ℕ) → m ≤ 1 → 1 ≤ m → m ≡ 1
        once m a b = omega arith

        by_place : (o : Option ℕ) → place_in (installers h row) n ≡ o → times_installed h row n ≡ cond (is_writer h row n) 1 0
        by_place None gone =
            let zero_times = sym (times_count n (installers h row)) ∙ no_place (installers h row) n gone in
            unwritten (is_writer h row n) (λ writes. none_missing parted.0 n (writes, zero_times)) (times_installed h row n) zero_times
        by_place (Some q) found =
            let w = place_there (installers h row) n q found in
            let most = at_most_once (installers h row) n (λ i j g k. same_place i j (same_Some (suc i) (suc j) (sym (right_at i n g).1 ∙ (right_at j n k).1))) in
            sym (times_count n (installers h row)) ∙ once (times n (installers h row)) most (at_times (installers h row) w.0 n w.2) ∙ sym (ap (λ b. cond b 1 0) (right_at w.0 n w.2).0)

  -- who is found is out of place, and is left out where a writer is
  is_named : (m : Misplaced) → misplaced_of h row ≡ Some m → NamesOut h row m
  is_named m e =
      elim (either_found (first_left_out h row h.txns) (first_wrong h row 0 (installers h row)) m e) [
        | inl left ↦ let found = found_left h.txns m left in record { so = found.1; missing_first = λ n out. found.0 }
        | inr wrong ↦
            let found = found_wrong 0 (installers h row) m wrong.1 in
            record {
              so = wrong_is found.0 found.1 m found.2 (ap (λ p. wrong_at h row p found.1) (sym (start found.0)) ∙ found.3);
              missing_first = λ n out. absurd (none_missing wrong.0 n out);
            }
      ]

  pub one_named : InstallsOther h row → (m : Misplaced) × (misplaced_of h row ≡ Some m) × NamesOut h row m
  one_named other = by_cases (misplaced_of h row) refl
    where
      by_cases : (o : Option Misplaced) → misplaced_of h row ≡ o → (m : Misplaced) × (misplaced_of h row ≡ Some m) × NamesOut h row m
      by_cases None none = absurd (other.1 (as_due none other.0))
      by_cases (Some m) found = (m, found, is_named m found)

-- the picture of such a fault has it in its note
pub note_names : (h : History) (report : Report) (row : Row) → IsExactJudgement h report → report.serial ≡ NoFault (InstallOrder row)
    → (found : Misplaced) × ((drawing_of h report None).note ≡ misplaced_text found) × NamesOut h row found
note_names h report row exact is =
    let first : IsFirst h (InstallOrder row) = subst (IsSerialVerdict h) is exact.judgement.serial in
    let named = one_named h row first.0 in
    let about = line_text (codes "serializable") (serial_text (NoFault (InstallOrder row))) in
    (named.0, ap (λ verdict. (of_serial h verdict).note) is ∙ ap (λ o. (of_installs h about row o).note) named.1, named.2)
