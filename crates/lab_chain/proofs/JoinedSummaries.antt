-- What is said of several pieces of a run.
use Rattle.std.{proofs.Common.{◌≡◌, ℕ, ◌+◌, ◌-◌, ◌≤◌, min, Option, Some, None, List, [], ◌∷◌, ◌++◌, refl, sym, ap, ◌∙◌, subst, arith}, proofs.Math.Bool.{or_assoc, or-false}, specs.Prelude.{◌^◌, fold}}
use Rattle.lab_chain.specs.{Levels.{worse}, Summary.{clear_lines, lines_joined, seam_at, seam_between, ends_joined, joined, nothing}, declared.{seam.Seam.{Seam}, summary.{Ends.{Ends}, Summary.{Summary}}}}
use Rattle.lab_chain.proofs.JoinedLines.{all_clear_first, all_clear_last, five_pieces, no_lines_between, best_first, best_last, five_levels, no_level_between}

-- ---- ends, and the seams between them
three_ends : (a b c : Option Ends) → ends_joined (ends_joined a b) c ≡ ends_joined a (ends_joined b c)
three_ends None b c = refl
three_ends (Some a) None c = refl
three_ends (Some a) (Some b) None = refl
three_ends (Some a) (Some b) (Some c) = refl

no_end_behind : (a : Option Ends) → ends_joined a None ≡ a
no_end_behind None = refl
no_end_behind (Some a) = refl

pub no_seam_behind : (a : Option Ends) → seam_between a None ≡ seam_at [] None
no_seam_behind None = refl
no_seam_behind (Some a) = refl

-- what lies behind a piece doesn't change what is said of the seam in front of it
pub seam_to : (a : Option Ends) (b : Ends) (c : Option Ends) → seam_between a (ends_joined (Some b) c) ≡ seam_between a (Some b)
seam_to None b c = refl
seam_to (Some a) b None = refl
seam_to (Some a) b (Some c) = refl

-- nor what lies in front of it the seam behind it
seam_from : (a : Option Ends) (b : Ends) (c : Option Ends) → seam_between (ends_joined a (Some b)) c ≡ seam_between (Some b) c
seam_from None b c = refl
seam_from (Some a) b None = refl
seam_from (Some a) b (Some c) = refl

-- ---- three pieces
-- pieces of which the same is said in each part are one
same_summary : (s t : Summary) → s.parts ≡ t.parts → s.lines ≡ t.lines → s.level ≡ t.level → s.committed ≡ t.committed → s.ends ≡ t.ends → s ≡ t
same_summary s t parts lines level committed ends = λ i. record { parts = parts i; lines = lines i; level = level i; committed = committed i; ends = ends i }

limited : (m a b c : ℕ) → min (min (a + b) m + c) m ≡ min (a + min (b + c) m) m
limited m a b c = omega arith

module _ (a b c : Summary) where
  -- where the piece between has parts
  joined_round : (e : Ends) → b.ends ≡ Some e → joined (joined a b) c ≡ joined a (joined b c)
  joined_round e is =
      let s : Seam = seam_between a.ends b.ends in
      let t : Seam = seam_between b.ends c.ends in
      let from : seam_between (ends_joined a.ends b.ends) c.ends ≡ t = subst (λ o. seam_between (ends_joined a.ends o) c.ends ≡ seam_between o c.ends) (sym is) (seam_from a.ends e c.ends) in
      let to : seam_between a.ends (ends_joined b.ends c.ends) ≡ s = subst (λ o. seam_between a.ends (ends_joined o c.ends) ≡ seam_between a.ends o) (sym is) (seam_to a.ends e c.ends) in
      same_summary (joined (joined a b) c) (joined a (joined b c)) (limited (2 ^ 64 - 1) a.parts b.parts c.parts)
      (ap (λ u. lines_joined (lines_joined a.lines (lines_joined s.lines b.lines)) (lines_joined u.lines c.lines)) from ∙ five_pieces a.lines s.lines b.lines t.lines c.lines
      ∙ sym (ap (λ u. lines_joined a.lines (lines_joined u.lines (lines_joined b.lines (lines_joined t.lines c.lines)))) to))
      (ap (λ u. worse (worse (worse (worse a.level s.level) b.level) u.level) c.level) from ∙ five_levels a.level s.level b.level t.level c.level
      ∙ sym (ap (λ u. worse (worse a.level u.level) (worse (worse b.level t.level) c.level)) to))
      (or_assoc a.committed b.committed c.committed)
      (three_ends a.ends b.ends c.ends)

  -- where it has none
  joined_over : b.ends ≡ None → b.lines ≡ clear_lines → joined (joined a b) c ≡ joined a (joined b c)
  joined_over is clear =
      let s : Seam = seam_between a.ends c.ends in
      let first : seam_between a.ends b.ends ≡ seam_at [] None = ap (seam_between a.ends) is ∙ no_seam_behind a.ends in
      let second : seam_between b.ends c.ends ≡ seam_at [] None = ap (λ o. seam_between o c.ends) is in
      let from : seam_between (ends_joined a.ends b.ends) c.ends ≡ s = ap (λ o. seam_between (ends_joined a.ends o) c.ends) is ∙ ap (λ o. seam_between o c.ends) (no_end_behind a.ends) in
      let to : seam_between a.ends (ends_joined b.ends c.ends) ≡ s = ap (λ o. seam_between a.ends (ends_joined o c.ends)) is in
      same_summary (joined (joined a b) c) (joined a (joined b c)) (limited (2 ^ 64 - 1) a.parts b.parts c.parts)
      ((λ i. lines_joined (lines_joined a.lines (lines_joined (first i).lines (clear i))) (lines_joined (from i).lines c.lines)) ∙ no_lines_between a.lines s.lines c.lines
      ∙ sym (λ i. lines_joined a.lines (lines_joined (to i).lines (lines_joined (clear i) (lines_joined (second i).lines c.lines)))))
      ((λ i. worse (worse (worse (worse a.level (first i).level) b.level) (from i).level) c.level) ∙ no_level_between a.level b.level s.level c.level
      ∙ sym (λ i. worse (worse a.level (to i).level) (worse (worse b.level (second i).level) c.level)))
      (or_assoc a.committed b.committed c.committed)
      (three_ends a.ends b.ends c.ends)

  pub joined_three : (b.ends ≡ None → b.lines ≡ clear_lines) → joined (joined a b) c ≡ joined a (joined b c)
  joined_three clear = at b.ends refl
    where
      at : (o : Option Ends) → b.ends ≡ o → joined (joined a b) c ≡ joined a (joined b c)
      at None is = joined_over is (clear is)
      at (Some e) is = joined_round e is

-- ---- no piece
all_counted : (m n : ℕ) → n ≤ m → min (n + 0) m ≡ n
all_counted m n le = omega arith

first_counted : (m n : ℕ) → n ≤ m → min (0 + n) m ≡ n
first_counted m n le = omega arith

at_most : (m n : ℕ) → min n m ≤ m
at_most m n = omega arith

-- that there are no more parts says nothing
nothing_behind : (s : Summary) → s.parts ≤ 2 ^ 64 - 1 → joined s nothing ≡ s
nothing_behind s few =
    let none : seam_between s.ends None ≡ seam_at [] None = no_seam_behind s.ends in
    same_summary (joined s nothing) s (all_counted (2 ^ 64 - 1) s.parts few)
    (ap (λ u. lines_joined s.lines (lines_joined u.lines clear_lines)) none ∙ all_clear_last s.lines)
    (ap (λ u. worse (worse s.level u.level) nothing.level) none ∙ best_last (worse s.level nothing.level) ∙ best_last s.level)
    (or-false s.committed)
    (no_end_behind s.ends)

pub nothing_before : (s : Summary) → s.parts ≤ 2 ^ 64 - 1 → joined nothing s ≡ s
nothing_before s few =
    same_summary (joined nothing s) s (first_counted (2 ^ 64 - 1) s.parts few) (all_clear_first (lines_joined clear_lines s.lines) ∙ all_clear_first s.lines) (best_first s.level) refl refl

-- ---- many pieces, of which each has parts
module _ {P : Type 0} (of : P → Summary) (few : (p : P) → (of p).parts ≤ 2 ^ 64 - 1) (has : (p : P) → (of p).ends ≡ None → ⊥) where
  abbrev Said : Summary → List P → Summary
  Said s ps = fold (λ s p. joined s (of p)) s ps

  still_few : (s : Summary) (ps : List P) → s.parts ≤ 2 ^ 64 - 1 → (Said s ps).parts ≤ 2 ^ 64 - 1
  still_few s [] le = le
  still_few s (p ∷ ps) le = still_few (joined s (of p)) ps (at_most (2 ^ 64 - 1) (s.parts + (of p).parts))

  -- what is said of them behind another is what is joined of what is said of that and of them
  said_behind : (s : Summary) (ps : List P) → s.parts ≤ 2 ^ 64 - 1 → Said s ps ≡ joined s (Said nothing ps)
  said_behind s [] le = sym (nothing_behind s le)
  said_behind s (p ∷ ps) le =
      said_behind (joined s (of p)) ps (at_most (2 ^ 64 - 1) (s.parts + (of p).parts)) ∙ joined_three s (of p) (Said nothing ps) (λ none. absurd (has p none))
      ∙ ap (joined s) (sym (said_behind (of p) ps (few p)) ∙ ap (λ t. Said t ps) (sym (nothing_before (of p) (few p))))

  said_from : (s : Summary) (ps qs : List P) → Said s (ps ++ qs) ≡ Said (Said s ps) qs
  said_from s [] qs = refl
  said_from s (p ∷ ps) qs = said_from (joined s (of p)) ps qs

  pub pieces_joined : (ps qs : List P) → Said nothing (ps ++ qs) ≡ joined (Said nothing ps) (Said nothing qs)
  pieces_joined ps qs = said_from nothing ps qs ∙ said_behind (Said nothing ps) qs (still_few nothing ps (omega arith))

  -- what is said of the first and of those behind it is joined
  pub first_joined : (p : P) (ps : List P) → Said nothing (p ∷ ps) ≡ joined (of p) (Said nothing ps)
  first_joined p ps = ap (λ t. Said t ps) (nothing_before (of p) (few p)) ∙ said_behind (of p) ps (few p)
