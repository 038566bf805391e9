-- What is said of single parts, and of a run with them.
use Rattle.std.{proofs.{Common.{◌≡◌, ℕ, ◌-◌, ◌≤◌, None, List, ◌∷◌, ◌++◌, sym, arith}, lemmas.Option.{none-some}}, specs.Prelude.{◌^◌}}
use Rattle.lab_chain.{specs.{Chain.{Part, summary_of}, Parts.{part_summary}, Summary.{joined}, declared.{part.Outcome.{Outcome, TheVariants.{Judged, Refused, Unreadable}}, summary.Summary.{Summary}}}, proofs.JoinedSummaries.{pieces_joined, first_joined}}

-- a part is counted once
pub counts_one : (name : List ℕ) (o : Outcome) → (part_summary name o).parts ≤ 2 ^ 64 - 1
counts_one name (Judged report initial last) = omega arith
counts_one name (Refused f) = omega arith
counts_one name Unreadable = omega arith

-- a part has ends
has_ends : (name : List ℕ) (o : Outcome) → (part_summary name o).ends ≡ None → ⊥
has_ends name (Judged report initial last) none = none-some _ (sym none)
has_ends name (Refused f) none = none-some _ (sym none)
has_ends name Unreadable none = none-some _ (sym none)

-- what is said of one part
abbrev pub of_part : Part → Summary
of_part p = part_summary p.name p.outcome

-- what is said of a run is what is joined of what is said of consecutive pieces of it
pub run_of_pieces : (ps qs : List Part) → summary_of (ps ++ qs) ≡ joined (summary_of ps) (summary_of qs)
run_of_pieces ps qs = pieces_joined of_part (λ p. counts_one p.name p.outcome) (λ p. has_ends p.name p.outcome) ps qs

-- so of its first part and of those behind it
pub first_and_rest : (p : Part) (ps : List Part) → summary_of (p ∷ ps) ≡ joined (of_part p) (summary_of ps)
first_and_rest p ps = first_joined of_part (λ p. counts_one p.name p.outcome) (λ p. has_ends p.name p.outcome) p ps
