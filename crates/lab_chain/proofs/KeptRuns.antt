-- A run that meets a requirement has a part in which a transaction committed.
use Rattle.std.{proofs.{Common.{◌≡◌, ℕ, suc, ◌-◌, Bool, true, false, ◌||◌, cond, Option, Some, None, List, [], ◌∷◌, refl, sym, ap, ◌∙◌, arith}, lemmas.{Bool.{and_parts, false≢true, Decides.{nat_tests}}, List.Elements.{All-head, All-tail}}}, specs.{Prelude.{nat_le, nat_lt}, List.{All}, Cmp.Derive.{both_true}}}
use Rattle.lab_table.specs.Table.{Table}
use Rattle.lab_judge.specs.declared.{places.Places.{Places}, report.{Grade.{Grade}, Report.{Report}}}
use Rattle.lab_judge.specs.declared.places.Places.TheVariants as places
use Rattle.lab_judge.specs.declared.report.Grade.TheVariants as grade
use Rattle.lab_reports.specs.Requirements as due
use Rattle.lab_reports.specs.declared.requirement.Requirement.{Requirement}
use Rattle.lab_reports.specs.declared.requirement.Requirement.TheVariants as required
use Rattle.lab_streams.proofs.KeptReports.{kept_by_committed}
use Rattle.lab_chain.specs.{Chain.{Part, IsPart, summary_of, is_clear, chain_meets, chain_keeps}, ChainLaws.{Commits, OneCommits}, Levels.{level_of, level_rank, levels_met, worse}, Lines.{line_joined}, Parts.{snapshot_line, judged_summary, unjudged_summary, part_summary, IsOutcome}, Summary.{seam_between, joined}}
use Rattle.lab_chain.specs.declared.{level.Level.{Level, TheVariants.{Pl3, Pl299, Pl2, Pl1, NotJudged, BelowPl1, Unsound}}, line.Line.{Line, TheVariants.{Clear, Unjudged, Found}}, part.Outcome.{Outcome, TheVariants.{Judged, Refused, Unreadable}}, summary.Summary.{Summary}}
use Rattle.lab_chain.proofs.PartSummaries.{of_part, first_and_rest}

-- ---- what a run meets, each piece of it meets

rank_left : (l : Level) → levels_met l ≡ 4 - level_rank l
rank_left Pl3 = refl
rank_left Pl299 = refl
rank_left Pl2 = refl
rank_left Pl1 = refl
rank_left NotJudged = refl
rank_left BelowPl1 = refl
rank_left Unsound = refl

module _ (k : ℕ) (a b : Level) where
  met_first : nat_le k (levels_met (worse a b)) ≡ true → nat_le k (levels_met a) ≡ true
  met_first = at (nat_lt (level_rank a) (level_rank b)) refl
    where
      at : (x : Bool) → nat_lt (level_rank a) (level_rank b) ≡ x → nat_le k (levels_met (cond x b a)) ≡ true → nat_le k (levels_met a) ≡ true
      at true less met = grind (arith, nat_tests, less, met, rank_left a, rank_left b)
      at false over met = met

  met_last : nat_le k (levels_met (worse a b)) ≡ true → nat_le k (levels_met b) ≡ true
  met_last = at (nat_lt (level_rank a) (level_rank b)) refl
    where
      at : (x : Bool) → nat_lt (level_rank a) (level_rank b) ≡ x → nat_le k (levels_met (cond x b a)) ≡ true → nat_le k (levels_met b) ≡ true
      at true less met = met
      at false over met = grind (arith, nat_tests, over, met, rank_left a, rank_left b)

clear_both : (a b : Line) → is_clear (line_joined a b) ≡ true → (is_clear a ≡ true) × (is_clear b ≡ true)
clear_both Clear Clear is = (refl, refl)
clear_both Clear (Unjudged part) is = absurd (false≢true is)
clear_both Clear (Found part reason) is = absurd (false≢true is)
clear_both (Unjudged part) Clear is = absurd (false≢true is)
clear_both (Unjudged part) (Unjudged other) is = absurd (false≢true is)
clear_both (Unjudged part) (Found other reason) is = absurd (false≢true is)
clear_both (Found part reason) Clear is = absurd (false≢true is)
clear_both (Found part reason) (Unjudged other) is = absurd (false≢true is)
clear_both (Found part reason) (Found other why) is = absurd (false≢true is)

module _ (a b : Summary) where
  level_both : (k : ℕ) → nat_le k (levels_met (joined a b).level) ≡ true → (nat_le k (levels_met a.level) ≡ true) × (nat_le k (levels_met b.level) ≡ true)
  level_both k met =
      let seam : Level = (seam_between a.ends b.ends).level in
      (met_first k a.level seam (met_first k (worse a.level seam) b.level met), met_last k (worse a.level seam) b.level met)

  met_both : (requirement : Requirement) → chain_meets requirement (joined a b) ≡ true → (chain_meets requirement a ≡ true) × (chain_meets requirement b ≡ true)
  met_both required.Pl1 met = level_both 1 met
  met_both required.Pl2 met = level_both 2 met
  met_both required.Pl299 met = level_both 3 met
  met_both required.Pl3 met = level_both 4 met
  met_both required.Snapshot met =
      let seam : Line = (seam_between a.ends b.ends).lines.snapshot in
      let first : (is_clear a.lines.snapshot ≡ true) × (is_clear (line_joined seam b.lines.snapshot) ≡ true) = clear_both a.lines.snapshot (line_joined seam b.lines.snapshot) met in
      (first.0, (clear_both seam b.lines.snapshot first.1).1)

-- ---- parts

same_levels : (g : Grade) → due.levels_met g ≡ levels_met (level_of g)
same_levels grade.Pl3 = refl
same_levels grade.Pl299 = refl
same_levels grade.Pl2 = refl
same_levels grade.Pl1 = refl
same_levels grade.BelowPl1 = refl
same_levels grade.Unsound = refl

same_snapshot : (name : List ℕ) (p : Places) → due.is_yes p ≡ is_clear (snapshot_line name p)
same_snapshot name (places.Yes spans) = refl
same_snapshot name (places.NoFault f) = refl
same_snapshot name (places.NoCycle points) = refl

module _ (name : List ℕ) where
  judged_meets : (requirement : Requirement) (r : Report) (initial last : Table) → chain_meets requirement (judged_summary name r initial last) ≡ true → due.meets requirement r ≡ true
  judged_meets required.Pl1 r initial last met = ap (nat_le 1) (same_levels r.level) ∙ met
  judged_meets required.Pl2 r initial last met = ap (nat_le 2) (same_levels r.level) ∙ met
  judged_meets required.Pl299 r initial last met = ap (nat_le 3) (same_levels r.level) ∙ met
  judged_meets required.Pl3 r initial last met = ap (nat_le 4) (same_levels r.level) ∙ met
  judged_meets required.Snapshot r initial last met = same_snapshot name r.snapshot ∙ met

  unjudged_meets_none : (requirement : Requirement) → chain_meets requirement (unjudged_summary name) ≡ true → ⊥
  unjudged_meets_none required.Pl1 met = false≢true met
  unjudged_meets_none required.Pl2 met = false≢true met
  unjudged_meets_none required.Pl299 met = false≢true met
  unjudged_meets_none required.Pl3 met = false≢true met
  unjudged_meets_none required.Snapshot met = false≢true met

kept_part : (requirement : Requirement) (p : Part) → IsPart p → chain_meets requirement (of_part p) ≡ true → (of_part p).committed ≡ true → Commits p
kept_part requirement p is met some = at p.outcome refl is.0 is.1 met some
  where
    at : (o : Outcome) → p.outcome ≡ o → (input : Option (List ℕ)) → IsOutcome input o → chain_meets requirement (part_summary p.name o) ≡ true → (part_summary p.name o).committed ≡ true → Commits p
    at (Judged r initial last) is None called met some = absurd called
    at (Judged r initial last) is (Some bytes) called met some = record {
      part = called.0;
      report = r;
      judged = record { bytes = bytes; held = called.1; judged = is ∙ (λ i. Judged r (called.3 i) (called.4 i)); exact = called.2 };
      committed = kept_by_committed called.0 requirement r called.2 (both_true (judged_meets p.name requirement r initial last met) some);
    }
    at (Refused f) is input called met some = absurd (unjudged_meets_none p.name requirement met)
    at Unreadable is input called met some = absurd (unjudged_meets_none p.name requirement met)

-- ---- runs

one_more : (p : Part) (ps : List Part) → OneCommits ps → OneCommits (p ∷ ps)
one_more p ps one = (one.0, (suc one.1.0, omega (arith, one.1.1), one.1.2), one.2)

-- the first part commits, or one of the others
one_of : (p : Part) (ps : List Part) → ((of_part p).committed ≡ true → Commits p) → ((summary_of ps).committed ≡ true → OneCommits ps) → (b : Bool) → (of_part p).committed ≡ b
    → (b || (summary_of ps).committed) ≡ true → OneCommits (p ∷ ps)
one_of p ps here there true is either = (p, (0, omega arith, refl), here is)
one_of p ps here there false is either = one_more p ps (there either)

kept_run : (requirement : Requirement) (ps : List Part) → All IsPart ps → chain_meets requirement (summary_of ps) ≡ true → (summary_of ps).committed ≡ true → OneCommits ps
kept_run requirement [] all met some = absurd (false≢true some)
kept_run requirement (p ∷ ps) all met some =
    let both : (chain_meets requirement (of_part p) ≡ true) × (chain_meets requirement (summary_of ps) ≡ true) = met_both (of_part p) (summary_of ps) requirement
    (sym (ap (chain_meets requirement) (first_and_rest p ps)) ∙ met) in
    let either : ((of_part p).committed || (summary_of ps).committed) ≡ true = sym (ap (λ s. s.committed) (first_and_rest p ps)) ∙ some in
    one_of p ps (kept_part requirement p (All-head IsPart p ps all) both.0) (kept_run requirement ps (All-tail IsPart p ps all) both.1) (of_part p).committed refl either

pub kept_by_one : (requirement : Requirement) (ps : List Part) → All IsPart ps → chain_keeps requirement (summary_of ps) ≡ true → OneCommits ps
kept_by_one requirement ps all kept =
    let both : (chain_meets requirement (summary_of ps) ≡ true) × ((summary_of ps).committed ≡ true) = and_parts (chain_meets requirement (summary_of ps)) (summary_of ps).committed kept in
    kept_run requirement ps all both.0 both.1
