-- Pairs of a modulus and a rest, and the list of their moduli.
use Rattle.std.proofs.{Common.{◌≡◌, ℕ, ℤ, pos, Bool, true, false, not, ◌&&◌, ◌||◌, List, [], ◌∷◌, refl, ap, ◌∙◌, nat_eq, int_rem}, lemmas.Bool.{or_parts, or_from, or_left, or_right, not-false}}
use Rattle.std.specs.{List.{list_any}, Ordering.{int_eq, nat_cmp}, BTreeSet.{insert_key}, FinMap.{nat_cmp-IsAntisymmetric}, Cmp.{unsigned_Decides, signed_Decides, first_so, second_so}}
use Rattle.lab_conditions.specs.Column.{leaves, leaves_by, is_pair, is_modulus_of, lacks_a_modulus}
use Rattle.lab_conditions.proofs.Ors.{and_none, any_none, any_or}
use Rattle.lab_conditions.proofs.Sets.{any_inserted}

-- whether two pairs are the same, as a hash set tests it
abbrev pub pair_eq : ℕ × ℤ → ℕ × ℤ → Bool
pair_eq a b = nat_eq a.0 b.0 && int_eq a.1 b.1

pub same_pair : (a b : ℕ × ℤ) → pair_eq a b ≡ true → a ≡ b
same_pair a b t =
    let ms : a.0 ≡ b.0 = (unsigned_Decides a.0 b.0).0 (first_so (nat_eq a.0 b.0) (int_eq a.1 b.1) t) in
    let rs : a.1 ≡ b.1 = (signed_Decides a.1 b.1).0 (second_so (nat_eq a.0 b.0) (int_eq a.1 b.1) t) in
    λ i. (ms i, rs i)

-- a pair lacks none of more moduli if it lacks none
pub more_moduli : (m : ℕ) (moduli : List ℕ) (pairs : List (ℕ × ℤ)) → lacks_a_modulus moduli pairs ≡ false → lacks_a_modulus (insert_key nat_cmp moduli m) pairs ≡ false
more_moduli m moduli [] none = refl
more_moduli m moduli (p ∷ ps) none =
    let parts = or_parts (not (list_any (is_modulus_of p) moduli)) (lacks_a_modulus moduli ps) none in
    or_from (not (list_any (is_modulus_of p) (insert_key nat_cmp moduli m))) (lacks_a_modulus (insert_key nat_cmp moduli m) ps)
    (ap not (any_inserted (is_modulus_of p) nat_cmp nat_cmp-IsAntisymmetric m moduli ∙ or_left (list_any (is_modulus_of p) moduli) (nat_eq m p.0) (not-false (list_any (is_modulus_of p) moduli) parts.0)))
    (more_moduli m moduli ps parts.1)

-- a modulus that was put in is there
pub put_modulus : (m : ℕ) (r : ℤ) (moduli : List ℕ) → list_any (is_modulus_of (m, r)) (insert_key nat_cmp moduli m) ≡ true
put_modulus m r moduli = any_inserted (is_modulus_of (m, r)) nat_cmp nat_cmp-IsAntisymmetric m moduli ∙ or_right (list_any (is_modulus_of (m, r)) moduli) (nat_eq m m) ((unsigned_Decides m m).1 refl)

-- and with it a pair of that modulus lacks none
pub none_lacks : (m : ℕ) (r : ℤ) (moduli : List ℕ) (old new : List (ℕ × ℤ)) → ((test : ℕ × ℤ → Bool) → list_any test new ≡ (list_any test old || test (m, r))) → lacks_a_modulus moduli old ≡ false
    → lacks_a_modulus (insert_key nat_cmp moduli m) new ≡ false
none_lacks m r moduli old new put none =
    let all = insert_key nat_cmp moduli m in
    put (λ (p : ℕ × ℤ). not (list_any (is_modulus_of p) all)) ∙ or_from (lacks_a_modulus all old) (not (list_any (is_modulus_of (m, r)) all)) (more_moduli m moduli old none) (ap not (put_modulus m r moduli))

-- a number leaves the rest of a pair exactly if it does by one of the moduli, where the pair lacks none
module _ (n : ℤ) where
  step : (b x l any rest : Bool) → (b ≡ true → x ≡ l) → rest ≡ (any && l) → ((b && x) || rest) ≡ ((b || any) && l)
  step true x true any rest is e = ap (λ y. y || rest) (is refl)
  step true x false any rest is e = ap (λ y. y || rest) (is refl) ∙ e ∙ and_none any
  step false x l any rest is e = e

  by_one : (p : ℕ × ℤ) (moduli : List ℕ) → list_any (λ m. is_pair m (int_rem n (pos m)) p) moduli ≡ (list_any (is_modulus_of p) moduli && leaves n p)
  by_one p [] = refl
  by_one p (m ∷ ms) =
      step (nat_eq m p.0) (int_eq (int_rem n (pos m)) p.1) (leaves n p) (list_any (is_modulus_of p) ms) (list_any (λ m. is_pair m (int_rem n (pos m)) p) ms)
      (λ t. ap (λ k. int_eq (int_rem n (pos k)) p.1) ((unsigned_Decides m p.0).0 t)) (by_one p ms)

  pub any_left : (moduli : List ℕ) (pairs : List (ℕ × ℤ)) → lacks_a_modulus moduli pairs ≡ false → list_any (leaves_by n pairs) moduli ≡ list_any (leaves n) pairs
  any_left moduli [] none = any_none moduli
  any_left moduli (p ∷ ps) none =
      let parts = or_parts (not (list_any (is_modulus_of p) moduli)) (lacks_a_modulus moduli ps) none in
      let there : list_any (is_modulus_of p) moduli ≡ true = not-false (list_any (is_modulus_of p) moduli) parts.0 in
      any_or (λ (m : ℕ). is_pair m (int_rem n (pos m)) p) (leaves_by n ps) moduli
      ∙ ap (λ b. b || list_any (leaves_by n ps) moduli) (by_one p moduli ∙ ap (λ b. b && leaves n p) there)
      ∙ ap (λ b. leaves n p || b) (any_left moduli ps parts.1)
