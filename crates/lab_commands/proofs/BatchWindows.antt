-- What is said of some files, and then of others, is said of all of them.
use Rattle.std.proofs.Common.{◌≡◌, ◌⊎◌, inl, inr, ℕ, ◌≤◌, refl, sym, ap, subst, ◌∙◌, List, [], ◌++◌, ◌-◌, map, take, drop, Option, arith}
use Rattle.std.specs.{Prelude.{max, Contains}, List.{All, flat_map}}
use Rattle.std.proofs.lemmas.{Bool.{cases_lt}, List.{map-append, Concat.{flat_map-append}, Elements.{All-nil, All-append, Contains-append_left, Contains-append_right}}}
use Rattle.std.proofs.Math.Seq.{take-add}
use Rattle.lab_streams.specs.declared.reporting.Wanted.{Wanted}
use Rattle.lab_commands.specs.Batching.{Part, IsSaid, IsGreatest, IsBatchAnswer, name_line}

-- of no files nothing is said
pub none_said : (wanted : Wanted) → IsBatchAnswer wanted [] [] [] 0
none_said wanted = record { parts = []; named = refl; read = refl; said = All-nil _; text_is = refl; status_is = record { most = All-nil _; met = inl refl } }

module _ (xs ys : List ℕ) (m n : ℕ) where
  met_left : (m ≡ 0) ⊎ Contains xs m → (m ≡ 0) ⊎ Contains (xs ++ ys) m
  met_left (inl is) = inl is
  met_left (inr met) = inr (Contains-append_left xs ys m met)

  met_right : (n ≡ 0) ⊎ Contains ys n → (n ≡ 0) ⊎ Contains (xs ++ ys) n
  met_right (inl is) = inl is
  met_right (inr met) = inr (Contains-append_right xs ys n met)

  -- the greatest of all is the greater of the greatest of each part
  greatest_of_both : IsGreatest xs m → IsGreatest ys n → IsGreatest (xs ++ ys) (max m n)
  greatest_of_both first second = elim (cases_lt m n) [
    | inl less ↦
        let is : n ≡ max m n = omega (arith, less) in
        subst (IsGreatest (xs ++ ys)) is (record {
          most = All-append (λ k. k ≤ n) xs ys (λ k d few. omega (arith, first.most k d few, less)) second.most;
          met = met_right second.met;
        })
    | inr more ↦
        let is : m ≡ max m n = omega (arith, more) in
        subst (IsGreatest (xs ++ ys)) is (record {
          most = All-append (λ k. k ≤ m) xs ys first.most (λ k d few. omega (arith, second.most k d few, more));
          met = met_left first.met;
        })
  ]

module _ (wanted : Wanted) (names more : List (List ℕ)) (inputs others : List (Option (List ℕ))) (text said : List ℕ) (status greatest : ℕ) where
  pub both_said : IsBatchAnswer wanted names inputs text status → IsBatchAnswer wanted more others said greatest
      → IsBatchAnswer wanted (names ++ more) (inputs ++ others) (text ++ said) (max status greatest)
  both_said a b = record {
    parts = a.parts ++ b.parts;
    named = map-append (λ (p : Part). p.name) a.parts b.parts ∙ ap (λ ns. ns ++ map (λ (p : Part). p.name) b.parts) a.named ∙ ap (λ ns. names ++ ns) b.named;
    read = map-append (λ (p : Part). p.input) a.parts b.parts ∙ ap (λ is. is ++ map (λ (p : Part). p.input) b.parts) a.read ∙ ap (λ is. inputs ++ is) b.read;
    said = All-append (λ (p : Part). IsSaid wanted p.name p.input p.said p.status) a.parts b.parts a.said b.said;
    text_is =
        ap (λ t. t ++ said) a.text_is ∙ ap (λ t. flat_map (λ (p : Part). name_line wanted.format p.name ++ p.said) a.parts ++ t) b.text_is
        ∙ sym (flat_map-append (λ (p : Part). name_line wanted.format p.name ++ p.said) a.parts b.parts);
    status_is =
        subst (λ ss. IsGreatest ss (max status greatest)) (sym (map-append (λ (p : Part). p.status) a.parts b.parts))
        (greatest_of_both (map (λ (p : Part). p.status) a.parts) (map (λ (p : Part). p.status) b.parts) status greatest a.status_is b.status_is);
  }

-- names up to a place are those up to an earlier one, and those between
pub front_and_window : {X : Type 0} (name : X → List ℕ) (names : List X) (done end : ℕ) → done ≤ end
    → map name (take done names) ++ map name (take (end - done) (drop done names)) ≡ map name (take end names)
front_and_window name names done end few =
    sym (map-append name (take done names) (take (end - done) (drop done names)))
    ∙ sym (ap (map name) (take-add done (end - done) names))
    ∙ ap (λ n. map name (take n names)) (omega (arith, few))
