-- Versions none of which a test takes otherwise than the state before them.
use Rattle.std.{proofs.{Common.{◌≡◌, Bool, true, false, not, [], ◌∷◌, List, sym, ◌∙◌, inl, inr}, lemmas.{Bool.{and_parts, not-true}, List.Elements.{Contains-append_cases}}}, specs.{Prelude.{Contains}, List.{list_all}}}
use Rattle.lab_table.{specs.Table.{State}, proofs.Members.{no_member, only_member}}
use Rattle.lab_deps.specs.{Edges.{differ}, Turns.{states, asked}, declared.versions.Version.{Version}}

module _ (f : State → Bool) (before : State) where
  pub steady_classes : (vs : List Version) → list_all (λ v. not (differ (f before) (f v.value))) vs ≡ true → (c : Bool) → Contains (asked f before (states vs)) c → c ≡ false
  steady_classes [] steady c there = absurd (no_member c there)
  steady_classes (v ∷ vs) steady c there =
      let parts = and_parts (not (differ (f before) (f v.value))) (list_all (λ v. not (differ (f before) (f v.value))) vs) steady in
      elim (Contains-append_cases (differ (f before) (f v.value) ∷ []) (asked f before (states vs)) c there) [
        | inl here ↦ sym (only_member (differ (f before) (f v.value)) c here) ∙ not-true (differ (f before) (f v.value)) parts.0
        | inr later ↦ steady_classes vs parts.1 c later
      ]
