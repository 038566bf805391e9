-- What was told of the first parts of a run, and then of others, is told of all of them.
use Rattle.std.proofs.Common.{◌≡◌, ℕ, zero, suc, ◌≤◌, ◌-◌, refl, sym, ap, subst, ◌∙◌, List, [], ◌∷◌, ◌++◌, map, take, drop, Option, arith}
use Rattle.std.specs.{Prelude.{fold, max}, Io.KnownBytes.{Appends, Keeps}}
use Rattle.std.proofs.KnownBytes.{Appends-nil, Appends-trans, Appends-kept}
use Rattle.std.proofs.lemmas.List.{map-append, append-nil, Concat.{flat_map-append}, Elements.{All-nil, All-append}}
use Rattle.std.proofs.Math.Seq.{take-add}
use Rattle.lab_chain.{specs.{Chain.{Part, IsPart, summary_of}, Summary.{joined, nothing}, declared.summary.Summary.{Summary}}, proofs.PartSummaries.{run_of_pieces}}
use Rattle.lab_chain_commands.specs.{ChainAnswers.{AreParts, IsTold, IsBegun, IsChainAnswer, outcome_text, outcome_status, parts_text, parts_status, whole_text, whole_status}, JudgedParts.{IsWindow}, declared.{asked.Asked.{Asked}, window.Window.{Window}}}

-- ---- two lists of parts

status_from : (n : ℕ) (ps : List Part) → fold (λ s (p : Part). max s (outcome_status p.outcome)) n ps ≡ max n (parts_status ps)
status_from n [] = omega arith
status_from n (p ∷ ps) =
    let here = status_from (max n (outcome_status p.outcome)) ps in
    let first = status_from (max 0 (outcome_status p.outcome)) ps in
    omega (arith, here, first)

both_statuses : (n : ℕ) (ps qs : List Part) → fold (λ s (p : Part). max s (outcome_status p.outcome)) n (ps ++ qs) ≡ max (fold (λ s (p : Part). max s (outcome_status p.outcome)) n ps) (parts_status qs)
both_statuses n [] qs = status_from n qs
both_statuses n (p ∷ ps) qs = both_statuses (max n (outcome_status p.outcome)) ps qs

both_parts : (names more : List (List ℕ)) (ps qs : List Part) → AreParts names ps → AreParts more qs → AreParts (names ++ more) (ps ++ qs)
both_parts names more ps qs a b = record {
  named = map-append (λ (p : Part). p.name) ps qs ∙ ap (λ ns. ns ++ map (λ (p : Part). p.name) qs) a.named ∙ ap (λ ns. names ++ ns) b.named;
  judged = All-append IsPart ps qs a.judged b.judged;
}

-- ---- names, cut

-- a list's names are those in front of a place, and those behind it
cut_at : {X : Type 0} (name : X → List ℕ) (xs : List X) (n : ℕ) → map name xs ≡ map name (take n xs) ++ map name (drop n xs)
cut_at name [] zero = refl
cut_at name [] (suc n) = refl
cut_at name (x ∷ xs) zero = refl
cut_at name (x ∷ xs) (suc n) = ap (λ ns. name x ∷ ns) (cut_at name xs n)

-- names up to a place are those up to an earlier one, and those between
pub front_and_window : {X : Type 0} (name : X → List ℕ) (names : List X) (done end : ℕ) → done ≤ end
    → map name (take done names) ++ map name (take (end - done) (drop done names)) ≡ map name (take end names)
front_and_window name names done end few =
    sym (map-append name (take done names) (take (end - done) (drop done names)))
    ∙ sym (ap (map name) (take-add done (end - done) names))
    ∙ ap (λ n. map name (take n names)) (omega (arith, few))

-- ---- what was told

module _ (asked : Asked) where
  -- of no part nothing is told
  pub told_none : (old : Option (List ℕ)) (s : Summary) → s ≡ nothing → IsTold asked [] old old s 0
  told_none old s is = record { parts = []; are = record { named = refl; judged = All-nil IsPart }; summary_is = is; status_is = refl; written = Appends-nil old }

  module _ (names more : List (List ℕ)) (old mid new : Option (List ℕ)) (s : Summary) (status : ℕ) (window : Window) where
    pub told_more : IsTold asked names old mid s status → IsWindow asked more window → Appends mid new window.text.items
        → IsTold asked (names ++ more) old new (joined s window.summary) (max status window.status)
    told_more a b written = record {
      parts = a.parts ++ b.parts;
      are = both_parts names more a.parts b.parts a.are b.are;
      summary_is = ap (λ t. joined t window.summary) a.summary_is ∙ ap (joined (summary_of a.parts)) b.summary_is ∙ sym (run_of_pieces a.parts b.parts);
      status_is = ap (λ n. max n window.status) a.status_is ∙ ap (max (parts_status a.parts)) b.status_is ∙ sym (both_statuses 0 a.parts b.parts);
      written =
          subst (Appends old new) (sym (flat_map-append (λ (p : Part). outcome_text asked p.name p.outcome) a.parts b.parts))
          (Appends-trans old mid new (parts_text asked a.parts) (parts_text asked b.parts) a.written (subst (Appends mid new) b.text_is written));
    }

  module _ {X : Type 0} (name : X → List ℕ) (names : List X) (done end : ℕ) (old mid new : Option (List ℕ)) (s next : Summary) (status total : ℕ) (window : Window) where
    -- what was told of the first parts, and then of those of a window, is told of both
    pub told_further : done ≤ end → IsTold asked (map name (take done names)) old mid s status → IsWindow asked (map name (take (end - done) (drop done names))) window
        → Appends mid new window.text.items → next ≡ joined s window.summary → total ≡ max status window.status → IsTold asked (map name (take end names)) old new next total
    told_further few told is written same_summary same_status =
        let more = told_more (map name (take done names)) (map name (take (end - done) (drop done names))) old mid new s status window told is written in
        rw same_summary (rw same_status (rw (front_and_window name names done end few) at more))

  module _ {X : Type 0} (name : X → List ℕ) (names : List X) (done : ℕ) (old mid new : Option (List ℕ)) (s : Summary) (status : ℕ) where
    -- what was told of the first parts is what there is to say of these
    pub begun_of : IsTold asked (map name (take done names)) old mid s status → Keeps mid new → IsBegun asked (map name names) old new
    begun_of told keeps = (
      parts_text asked told.parts,
      Appends-kept old mid new (parts_text asked told.parts) told.written keeps,
      record {
        front = map name (take done names);
        rest = map name (drop done names);
        parts = told.parts;
        cut = cut_at name names done;
        are = told.are;
        text_is = refl;
      },
    )

  module _ (names : List (List ℕ)) (old mid : Option (List ℕ)) (s : Summary) (status : ℕ) (told : IsTold asked names old mid s status) where
    pub begun_with_all : IsBegun asked names old mid
    begun_with_all = (parts_text asked told.parts, told.written, record { front = names; rest = []; parts = told.parts; cut = sym (append-nil names); are = told.are; text_is = refl })

    -- what was told of the parts, and then of the run, is the answer
    pub answered : (new : Option (List ℕ)) (text : List ℕ) (total : ℕ) → text ≡ whole_text asked.format s → Appends mid new text → total ≡ max status (whole_status asked s)
        → (said : List ℕ) × Appends old new said × IsChainAnswer asked names said total
    answered new text total text_is written total_is = (
      parts_text asked told.parts ++ text,
      Appends-trans old mid new (parts_text asked told.parts) text told.written written,
      record {
        parts = told.parts;
        are = told.are;
        text_is = ap (λ t. parts_text asked told.parts ++ t) (text_is ∙ ap (whole_text asked.format) told.summary_is);
        status_is = total_is ∙ ap (λ n. max n (whole_status asked s)) told.status_is ∙ ap (λ t. max (parts_status told.parts) (whole_status asked t)) told.summary_is;
      },
    )
