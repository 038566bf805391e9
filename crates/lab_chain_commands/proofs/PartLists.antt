-- Parts as the code has them, in a list, are parts of a run.
use Rattle.std.{proofs.{Common.{◌≡◌, ℕ, refl, sym, ap, ◌∙◌, List, [], ◌∷◌, map, Ok, Result, IfOk, subst}, lemmas.List.{Elements.{All-nil, All-cons}, Folds.{fold-map, flat_map-map}}}, specs.{Prelude.{fold, max}, List.{All, AllZip, flat_map}}}
use Rattle.lab_chain.specs.{Chain.{Part, IsPart, with_part}, Summary.{nothing}, declared.summary.Summary.{Summary}}
use Rattle.lab_chain_commands.specs.{ChainAnswers.{AreParts, outcome_text, outcome_status, parts_text}, JudgedParts.{part_of, IsWindow}, declared.{asked.Asked.{Asked}, window.Window.{Window}, judged_part.{Input.{Input}, JudgedPart.{JudgedPart}}}}

-- what is read becomes a part
abbrev pub Judges : Input → JudgedPart → Type 0
Judges input part = (part.name.now ≡ input.name.now) × IsPart (part_of part)

abbrev pub AreJudged : List Input → List JudgedPart → Type 0
AreJudged inputs parts = AllZip Judges inputs parts

-- ---- where each result is an answer, what holds of each answer holds of the answers

on_answers : {X A : Type 0} (E : Type 0) (P : X → A → Type 0) (xs : List X) (ys : List A) → AllZip (λ (x : X) (r : Result A E). IfOk r (P x)) xs (map Ok ys) → AllZip P xs ys
on_answers E P [] [] each = each
on_answers E P [] (y ∷ ys) each = each
on_answers E P (x ∷ xs) [] each = each
on_answers E P (x ∷ xs) (y ∷ ys) each = (each.0, on_answers E P xs ys each.1)

pub all_answers : {X A E : Type 0} (P : X → A → Type 0) (xs : List X) (rs : List (Result A E)) (ys : List A) → rs ≡ map Ok ys
    → AllZip (λ (x : X) (r : Result A E). IfOk r (P x)) xs rs → AllZip P xs ys
all_answers {X} {A} {E} P xs rs ys same each = on_answers E P xs ys (subst (AllZip (λ (x : X) (r : Result A E). IfOk r (P x)) xs) same each)

-- they have the names of what was read
named : (inputs : List Input) (parts : List JudgedPart) → AreJudged inputs parts → map (λ (p : Part). p.name) (map part_of parts) ≡ map (λ (i : Input). i.name.now) inputs
named [] [] each = refl
named [] (p ∷ parts) each = absurd each
named (i ∷ inputs) [] each = absurd each
named (i ∷ inputs) (p ∷ parts) each = ap (λ n. n ∷ map (λ (q : Part). q.name) (map part_of parts)) each.0.0 ∙ ap (λ ns. i.name.now ∷ ns) (named inputs parts each.1)

judged : (inputs : List Input) (parts : List JudgedPart) → AreJudged inputs parts → All IsPart (map part_of parts)
judged [] [] each = All-nil _
judged [] (p ∷ parts) each = absurd each
judged (i ∷ inputs) [] each = absurd each
judged (i ∷ inputs) (p ∷ parts) each = All-cons IsPart (part_of p) (map part_of parts) each.0.1 (judged inputs parts each.1)

pub are_parts : (names : List (List ℕ)) (inputs : List Input) (parts : List JudgedPart) → map (λ (i : Input). i.name.now) inputs ≡ names → AreJudged inputs parts
    → AreParts names (map part_of parts)
are_parts names inputs parts read each = record { named = named inputs parts each ∙ read; judged = judged inputs parts each }

-- what is said of them, and written of them, is that of the parts
pub same_summary : (s : Summary) (parts : List JudgedPart) → fold (λ s (p : JudgedPart). with_part s (part_of p)) s parts ≡ fold with_part s (map part_of parts)
same_summary s parts = sym (fold-map with_part part_of s parts)

pub same_status : (n : ℕ) (parts : List JudgedPart) → fold (λ s (p : JudgedPart). max s (outcome_status p.outcome)) n parts ≡ fold (λ s (p : Part). max s (outcome_status p.outcome)) n (map part_of parts)
same_status n parts = sym (fold-map (λ s (p : Part). max s (outcome_status p.outcome)) part_of n parts)

pub same_text : (asked : Asked) (parts : List JudgedPart) → flat_map (λ (p : JudgedPart). outcome_text asked p.name.now p.outcome) parts ≡ parts_text asked (map part_of parts)
same_text asked parts = sym (flat_map-map (λ (p : Part). outcome_text asked p.name p.outcome) part_of parts)

module _ (asked : Asked) (names : List (List ℕ)) (inputs : List Input) (parts : List JudgedPart) (read : map (λ (i : Input). i.name.now) inputs ≡ names) (each : AreJudged inputs parts) where
  -- a window that was told of them
  pub told_window : (window : Window)
      → (window.summary ≡ fold (λ s (p : JudgedPart). with_part s (part_of p)) nothing parts) × (window.status ≡ fold (λ s (p : JudgedPart). max s (outcome_status p.outcome)) 0 parts)
      × (window.text.items ≡ flat_map (λ (p : JudgedPart). outcome_text asked p.name.now p.outcome) parts)
      → IsWindow asked names window
  told_window window told = record {
    parts = map part_of parts;
    are = are_parts names inputs parts read each;
    summary_is = told.0 ∙ same_summary nothing parts;
    status_is = told.1 ∙ same_status 0 parts;
    text_is = told.2 ∙ same_text asked parts;
  }
