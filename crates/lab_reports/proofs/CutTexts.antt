-- Texts of which no more than a part is shown.
use Rattle.std.{proofs.{Common.{◌≡◌, ℕ, ◌+◌, ◌<◌, ◌≤◌, true, false, List, ◌++◌, length, take, sym, ap, append_assoc, arith, ◌∙◌}, lemmas.List.{length-append}, Math.Seq.{take-append-add}}, specs.Prelude.{nat_le, codes, if◌then◌else◌}}
use Rattle.lab_reports.specs.Shortfall.{max_shown, cut}

module _ (old text : List ℕ) where
  -- a text that is short is shown whole,
  pub uncut : length (old ++ text) ≤ length old + max_shown → old ++ text ≡ old ++ cut text
  uncut h =
      let short : nat_le (length text) max_shown ≡ true = grind (arith, length-append old text) in
      ap (λ b. old ++ (if b then text else take max_shown text ++ codes " ..")) (sym short)

  -- and of another one as much as is shown
  pub cut_short : length old + max_shown < length (old ++ text) → take (length old + max_shown) (old ++ text) ++ codes " .." ≡ old ++ cut text
  cut_short h =
      let long : nat_le (length text) max_shown ≡ false = grind (arith, length-append old text) in
      ap (λ front. front ++ codes " ..") (take-append-add old text max_shown)
      ∙ append_assoc old (take max_shown text) (codes " ..")
      ∙ ap (λ b. old ++ (if b then text else take max_shown text ++ codes " ..")) (sym long)
