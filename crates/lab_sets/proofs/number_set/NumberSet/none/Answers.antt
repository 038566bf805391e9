use Rattle.std.proofs.{Common.{◌≡◌, ℕ, inl, inr, ap, ◌∙◌, arith, get_or, replicate}, lemmas.{Bool.{cases_lt}, List.{get_or_past, get_or-replicate, length-replicate}}}
use Rattle.lab_sets.proofs.Words.{bare}
use Rattle.lab_sets.proofs.number_set.NumberSet.none.Goals as goal

zeros : (n k : ℕ) → get_or (replicate {A = ℕ} n 0) k 0 ≡ 0
zeros n k =
    elim (cases_lt k n) [
      | inl below ↦ get_or-replicate {A = ℕ} n k 0 0 below
      | inr past ↦ get_or_past {X = ℕ} (replicate n 0) k 0 (omega (arith, length-replicate {A = ℕ} n 0))
    ]

pub returns-clause-none : goal.returns-clause-none
returns-clause-none c = bare c.in_ok-words.words.items (λ k. ap (λ items. get_or items k 0) (c.in_ok-words.ensures.items_if_clones_equal (λ _ e. e)) ∙ zeros _ k)
