-- What stands of sentences that are cut: the first ones, each whole.
use Rattle.std.{proofs.{Common.{◌≡◌, ℕ, ◌+◌, ◌-◌, ◌<◌, ◌≤◌, ◌⊎◌, inl, inr, Bool, true, false, cond, Option, Some, None, List, [], ◌∷◌, ◌++◌, refl, sym, ap, ◌∙◌, arith, append_assoc, append-nil}, lemmas.Bool.Decides.{nat_tests}}, specs.Prelude.{nat_le, is_none}}
use Rattle.lab_explain.{specs.{Lines.{lines, first_lines, joined, begun, standing, front, with_left_out, cut, capped}, Cuts.{MayBegin, IsStanding, IsCutOff, IsCut}}, proofs.Capped.{lines_append}}

-- where there is no room nothing stands
none_stand : (most : ℕ) (sentences : List (List ℕ)) → standing most None sentences ≡ []
none_stand most [] = refl
none_stand most (s ∷ ss) = none_stand most ss

pub nothing_stands : (most : ℕ) (room : Option ℕ) (sentences : List (List ℕ)) → is_none room ≡ true → standing most room sentences ≡ []
nothing_stands most None sentences none = none_stand most sentences
nothing_stands most (Some room) sentences none = cc

-- what may stand of what is left, as a type of its own
abbrev Which : ℕ → ℕ → List ℕ → List ℕ → Type 0
Which most room s text = ((lines s ≤ most) × (text ≡ [])) ⊎ ((most < lines s) × (text ≡ first_lines room s))

as_much : (most a b : ℕ) (s text : List ℕ) → a ≡ b → Which most a s text → Which most b s text
as_much most a b s text same (inl none) = inl none
as_much most a b s text same (inr (long, is)) = inr (long, is ∙ ap (λ n. first_lines n s) same)

-- behind one sentence more
module _ (most room : ℕ) (s : List ℕ) (fits : lines s ≤ room) (whole : List (List ℕ)) (text : List ℕ) where
  behind : (left : List (List ℕ)) → MayBegin most (room - lines s) (lines (joined whole)) left text → MayBegin most room (lines (s ++ joined whole)) left text
  behind [] none = none
  behind (x ∷ xs) next =
      let all = lines_append s (joined whole) in
      let more = next.0 in
      let same : (room - lines s) - lines (joined whole) ≡ room - lines (s ++ joined whole) = omega (arith, all) in
      (omega (arith, all, more, fits), as_much most ((room - lines s) - lines (joined whole)) (room - lines (s ++ joined whole)) x text same next.1)

-- of a sentence that has no room
module _ (most room : ℕ) (s : List ℕ) where
  which : (v : Bool) → nat_le (lines s) most ≡ v → Which most room s (cond v [] (first_lines room s))
  which true is = inl (grind (arith, nat_tests, is), refl)
  which false isnt = inr (grind (arith, nat_tests, isnt), refl)

-- the first sentence has room, or hasn't
module _ (most room : ℕ) (s : List ℕ) (ss : List (List ℕ)) where
  fits : lines s ≤ room → IsStanding most (room - lines s) ss (standing most (Some (room - lines s)) ss) → IsStanding most room (s ∷ ss) (s ++ standing most (Some (room - lines s)) ss)
  fits has rest = record {
    whole = s ∷ rest.whole;
    left = rest.left;
    begun = rest.begun;
    first_ones = ap (λ xs. s ∷ xs) rest.first_ones;
    text_is = ap (λ t. s ++ t) rest.text_is ∙ sym (append_assoc s (joined rest.whole) rest.begun);
    enough = omega (arith, has, rest.enough, lines_append s (joined rest.whole));
    next = behind most room s has rest.whole rest.begun rest.left rest.next;
  }

  hasnt : room < lines s → IsStanding most room (s ∷ ss) (begun most room s ++ standing most None ss)
  hasnt long =
      let none : lines (joined []) ≡ 0 = refl in
      record {
        whole = [];
        left = s ∷ ss;
        begun = begun most room s;
        first_ones = refl;
        text_is = ap (λ t. begun most room s ++ t) (none_stand most ss) ∙ append-nil (begun most room s);
        enough = omega (arith, none);
        next = (omega (arith, long, none), as_much most room (room - lines (joined [])) s (begun most room s) (omega (arith, none)) (which most room s (nat_le (lines s) most) refl));
      }

  either : (v : Bool) → nat_le (lines s) room ≡ v → IsStanding most (room - lines s) ss (standing most (Some (room - lines s)) ss)
      → IsStanding most room (s ∷ ss) (cond v s (begun most room s) ++ standing most (cond v (Some (room - lines s)) None) ss)
  either true is rest = fits (grind (arith, nat_tests, is)) rest
  either false isnt rest = hasnt (grind (arith, nat_tests, isnt))

pub stand : (most room : ℕ) (sentences : List (List ℕ)) → IsStanding most room sentences (standing most (Some room) sentences)
stand most room [] =
    let none : lines (joined []) ≡ 0 = refl in
    record { whole = []; left = []; begun = []; first_ones = refl; text_is = refl; enough = omega (arith, none); next = refl }
stand most room (s ∷ ss) = either most room s ss (nat_le (lines s) room) refl (stand most (room - lines s) ss)

-- a part is all of its sentences, or cut between them
module _ (most : ℕ) (sentences : List (List ℕ)) where
  pub cut_is : IsCutOff most sentences (cut most sentences)
  unfolding with_left_out
  cut_is = (front (most - 1) sentences, stand (most - 1) (most - 1) sentences, refl)

  capped_is : (v : Bool) → nat_le (lines (joined sentences)) most ≡ v → IsCut most sentences (cond v (joined sentences) (cut most sentences))
  capped_is true is = inl (grind (arith, nat_tests, is), refl)
  capped_is false isnt = inr (grind (arith, nat_tests, isnt), cut_is)

pub is_cut : (most : ℕ) (sentences : List (List ℕ)) → IsCut most sentences (capped most sentences)
is_cut most sentences = capped_is most sentences (nat_le (lines (joined sentences)) most) refl
