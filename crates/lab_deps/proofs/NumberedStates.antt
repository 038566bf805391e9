-- Numbers of states tell what a test answers.
use Rattle.std.{proofs.{Common.{◌≡◌, ◌<◌, ℕ, zero, suc, Bool, true, false, Some, None, List, [], ◌∷◌, ◌++◌, length, get_or, refl, sym, ap, ◌∙◌, subst, append_assoc, arith, inl, inr}, lemmas.{Bool.{false≢true, or_parts}, List.{length-map, map-append, get_or-map, get_or_past, Elements.{Contains-append_cases}}}}, specs.{Prelude.{Contains}, List.{list_any}, Cmp.{signed_Decides}}}
use Rattle.lab_table.{specs.Table.{State}, proofs.Members.{no_member, only_member}}
use Rattle.lab_deps.specs.{Edges.{differ}, Turns.{states, alike, Heeds, asked, classes_of, IsNumber, AreNumbers, AreTurns, AreKept}, declared.{kept.Kept.{Kept}, versions.Version.{Version}}}

pub no_difference : (a b : Bool) → a ≡ b → differ a b ≡ false
no_difference true true same = refl
no_difference false false same = refl
no_difference true false same = absurd (false≢true (sym same))
no_difference false true same = absurd (false≢true same)

pub differ_alike : (a x y : Bool) → differ (differ a x) (differ a y) ≡ differ x y
differ_alike true true true = refl
differ_alike true true false = refl
differ_alike true false true = refl
differ_alike true false false = refl
differ_alike false true true = refl
differ_alike false true false = refl
differ_alike false false true = refl
differ_alike false false false = refl

-- where no answer is true, all classes are false
pub none_true : (answers : List Bool) → list_any (λ b. b) answers ≡ false → (numbers : List ℕ) (c : Bool) → Contains (classes_of answers numbers) c → c ≡ false
none_true answers none [] c there = absurd (no_member c there)
none_true answers none (g ∷ numbers) c there =
    elim (Contains-append_cases (get_or answers g false ∷ []) (classes_of answers numbers) c there) [
      | inl here ↦ sym (only_member (get_or answers g false) c here) ∙ each answers none g
      | inr later ↦ none_true answers none numbers c later
    ]
  where
    each : (answers : List Bool) → list_any (λ b. b) answers ≡ false → (g : ℕ) → get_or answers g false ≡ false
    each [] none g = refl
    each (b ∷ bs) none zero = let parts = or_parts b (list_any (λ b. b) bs) none in parts.0
    each (b ∷ bs) none (suc g) = (let parts = or_parts b (list_any (λ b. b) bs) none in each bs parts.1 g)

-- a test answers the same for states that are alike
alike_heeded : (f : State → Bool) (exact : Bool) → Heeds exact f → (x y : State) → alike exact x y ≡ true → f x ≡ f y
alike_heeded f true heeds None None same = refl
alike_heeded f true heeds None (Some y) same = absurd (false≢true same)
alike_heeded f true heeds (Some x) None same = absurd (false≢true same)
alike_heeded f true heeds (Some x) (Some y) same = ap (λ z. f (Some z)) ((signed_Decides x y).0 same)
alike_heeded f false heeds None None same = refl
alike_heeded f false heeds None (Some y) same = absurd (false≢true same)
alike_heeded f false heeds (Some x) None same = absurd (false≢true same)
alike_heeded f false heeds (Some x) (Some y) same = heeds refl x y

module _ (exact : Bool) (before : State) (others : List State) (x : State) where
  pub first_number : alike exact before x ≡ true → IsNumber exact before others x (length others)
  first_number same f heeds =
      let long : length (asked f before others) ≡ length others = length-map others (λ y. differ (f before) (f y)) in
      get_or_past (asked f before others) (length others) false (omega (arith, long)) ∙ sym (no_difference (f before) (f x) (alike_heeded f exact heeds before x same))

  pub other_number : (k : ℕ) (d : State) → k < length others → alike exact (get_or others k d) x ≡ true → IsNumber exact before others x k
  other_number k d within same f heeds = get_or-map (λ y. differ (f before) (f y)) others k d false within ∙ ap (differ (f before)) (alike_heeded f exact heeds (get_or others k d) x same)

module _ (exact : Bool) (before : State) (others : List State) where
  pub as_many : (vs : List Version) (numbers : List ℕ) → AreNumbers exact before others vs numbers → length numbers ≡ length vs
  as_many vs numbers are =
      let none : State → Bool = λ _. false in
      sym (length-map numbers (λ g. get_or (asked none before others) g false)) ∙ (ap length (are none (λ _ _ _. refl)) ∙ (length-map (states vs) (λ y. differ false false) ∙ length-map vs (λ (v : Version). v.value)))

  -- the classes so far, and of the versions that are left
  pub numbered_next : (numbers : List ℕ) (g : ℕ) (v : Version) (vs : List Version) (all : List Bool) (f : State → Bool) → Heeds exact f → IsNumber exact before others v.value g
      → classes_of (asked f before others) numbers ++ asked f before (states (v ∷ vs)) ≡ all → classes_of (asked f before others) (numbers ++ g ∷ []) ++ asked f before (states vs) ≡ all
  numbered_next numbers g v vs all f heeds is so_far =
      let answers = asked f before others in
      ap (λ cs. cs ++ asked f before (states vs)) (map-append (λ k. get_or answers k false) numbers (g ∷ []))
      ∙ (append_assoc (classes_of answers numbers) (get_or answers g false ∷ []) (asked f before (states vs)) ∙ (ap (λ b. classes_of answers numbers ++ b ∷ asked f before (states vs)) (is f heeds) ∙ so_far))

  -- one more is kept, of which the turns are those of its answers
  pub kept_more : (vs : List Version) (numbers : List ℕ) (kept : List Kept) (new : Kept) → AreTurns false (classes_of new.answers.items numbers) vs new.turns
      → AreNumbers exact before others vs numbers → AreKept exact before others vs kept → AreKept exact before others vs (kept ++ new ∷ [])
  kept_more vs numbers kept new turns are so_far item there f heeds is =
      elim (Contains-append_cases kept (new ∷ []) item there) [
        | inl old ↦ so_far item old f heeds is
        | inr now ↦ subst (λ cs. AreTurns false cs vs item.turns) (ap (λ bs. classes_of bs numbers) (sym is) ∙ are f heeds)
            (subst (λ (k : Kept). AreTurns false (classes_of k.answers.items numbers) vs k.turns) (only_member new item now) turns)
      ]

  pub none_kept : (vs : List Version) → AreKept exact before others vs []
  none_kept vs item there = absurd (no_member item there)
