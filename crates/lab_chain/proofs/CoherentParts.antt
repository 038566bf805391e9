-- A part's summary is coherent, and so is that of a run.
use Rattle.std.{proofs.{Common.{◌≡◌, ◌≢◌, ℕ, Bool, true, false, not, ◌||◌, Option, Some, None, List, [], ◌∷◌, refl, sym, ap, ◌∙◌, subst, arith, inl, inr}, lemmas.{Bool.{cases_lt, false≢true}, List.Elements.{All-head, All-tail}}}, specs.{Prelude.{fold}, List.{All}, Cmp.Derive.{both_true}}}
use Rattle.lab_table.specs.{Row.{Row}}
use Rattle.lab_history.specs.History.{History}
use Rattle.lab_deps.specs.{KindSets.{is_anti}, Refusal.{is_uncommitted_read}, Soundness.{Stands, IsSound}, declared.{edge.Edge.{Edge}, fault.LocalFault.{LocalFault, TheVariants.{AbortedRead, IntermediateRead}}}}
use Rattle.lab_judge.specs.Findings as found
use Rattle.lab_judge.specs.{Verdicts.{IsYes}, Judgement.{IsExactJudgement, IsSerialVerdict, SameFault, FindsWalk, FindsFault, Judges, JudgesAll, JudgesReads, JudgesNothing, JudgesAtRead}, Phenomena.{count_kind, IsClosedWalk, IsG0, IsG1c, IsGSingle, IsG2Item, IsG2, NoWalk, MeetsPl2, MeetsPl299, MeetsPl3, IsGrade}, ReportText.{serial_text, places_text}, declared.{places.Places.{Places}, report.{Finding.{Finding, TheVariants.{Absent, Walk, At, NotJudged}}, Grade.{Grade}, Report.{Report}}, serial.Serial.{Serial}}}
use Rattle.lab_judge.specs.declared.places.Places.TheVariants as places
use Rattle.lab_judge.specs.declared.report.Grade.TheVariants as grade
use Rattle.lab_judge.specs.declared.serial.Serial.TheVariants as serial
use Rattle.lab_judge.proofs.{ExactJudgements.{yes_where}, Levels.{none_aborted, none_intermediate, read_below}}
use Rattle.lab_chain.specs.{Chain.{Part, IsPart, is_clear, is_found, with_part, summary_of}, Coherence.{at_best, allows, all_allow, shows, is_coherent}, Levels.{level_of}, Parts.{no_reason, serial_line, snapshot_line, finding_line, report_lines, part_summary, IsOutcome}, Summary.{nothing}}
use Rattle.lab_chain.specs.declared.{level.Level.{Level, TheVariants.{Pl3, Pl299, Pl2, Pl1, BelowPl1}}, line.Line.{Line, TheVariants.{Found}}, part.Outcome.{Outcome, TheVariants.{Judged, Refused, Unreadable}}, summary.{Lines.{Lines}, Summary.{Summary}}}
use Rattle.lab_chain.specs.declared.level.Level.TheVariants as level
use Rattle.lab_chain.proofs.{CoherentPieces.{coherent_joined}, JoinedSummaries.{nothing_before}, OneLevel.{to_between, to_first}, PartSummaries.{of_part, counts_one}}

-- ---- which levels a finding leaves

-- no cycle of any kind, in a history of the third level
no_cycle : (h : History) → MeetsPl3 h → NoWalk (IsClosedWalk h)
no_cycle h m es w = elim (cases_lt (count_kind is_anti es) 1) [
  | inl less ↦ m.0.2 es (w, omega (arith, less))
  | inr some ↦ m.1 es (w, some)
]

-- the best level is better than each
at_last : (l : Level) → at_best Pl3 l ≡ true
at_last Pl3 = refl
at_last Pl299 = refl
at_last Pl2 = refl
at_last Pl1 = refl
at_last level.NotJudged = refl
at_last BelowPl1 = refl
at_last level.Unsound = refl

module _ (h : History) (part : List ℕ) where
  walk_allowed : (IsOne : List Edge → Type 0) (u f l : Level) (F : Finding) → FindsWalk IsOne F → ((es : List Edge) → IsOne es → at_best f l ≡ true) → allows u f l (finding_line part F) ≡ true
  walk_allowed IsOne u f l Absent finds best = refl
  walk_allowed IsOne u f l (Walk walk) finds best = best walk finds
  walk_allowed IsOne u f l (At n k row) finds best = absurd finds
  walk_allowed IsOne u f l NotJudged finds best = absurd finds

  fault_allowed : (fault : ℕ → ℕ → Row → LocalFault) (u f l : Level) (F : Finding) → FindsFault h fault F → ((n k : ℕ) (row : Row) → Stands h (fault n k row) → at_best f l ≡ true)
      → allows u f l (finding_line part F) ≡ true
  fault_allowed fault u f l Absent finds best = refl
  fault_allowed fault u f l (Walk walk) finds best = absurd finds
  fault_allowed fault u f l (At n k row) finds best = best n k row finds.0
  fault_allowed fault u f l NotJudged finds best = absurd finds

  walk_found : (IsOne : List Edge → Type 0) (F : Finding) → FindsWalk IsOne F → (NoWalk IsOne → ⊥) → is_found (finding_line part F) ≡ true
  walk_found IsOne Absent finds some = absurd (some finds)
  walk_found IsOne (Walk walk) finds some = refl
  walk_found IsOne (At n k row) finds some = absurd finds
  walk_found IsOne NotJudged finds some = absurd finds

  -- ---- by level

  at_g0 : (g : Grade) → IsGrade h g → (es : List Edge) → IsG0 h es → at_best BelowPl1 (level_of g) ≡ true
  at_g0 grade.Pl3 i es w = absurd (to_first h i.0 es w)
  at_g0 grade.Pl299 i es w = absurd (to_first h i.0.0 es w)
  at_g0 grade.Pl2 i es w = absurd (to_first h i.0 es w)
  at_g0 grade.Pl1 i es w = absurd (i.0 es w)
  at_g0 grade.BelowPl1 i es w = refl
  at_g0 grade.Unsound i es w = absurd i

  -- what PL-2 excludes
  at_second : (g : Grade) → IsGrade h g → (MeetsPl2 h → ⊥) → at_best Pl1 (level_of g) ≡ true
  at_second grade.Pl3 i broken = absurd (broken i.0)
  at_second grade.Pl299 i broken = absurd (broken i.0.0)
  at_second grade.Pl2 i broken = absurd (broken i.0)
  at_second grade.Pl1 i broken = refl
  at_second grade.BelowPl1 i broken = refl
  at_second grade.Unsound i broken = absurd i

  -- what PL-2.99 excludes
  at_between : (g : Grade) → IsGrade h g → (MeetsPl299 h → ⊥) → at_best Pl2 (level_of g) ≡ true
  at_between grade.Pl3 i broken = absurd (broken (to_between h i))
  at_between grade.Pl299 i broken = absurd (broken i.0)
  at_between grade.Pl2 i broken = refl
  at_between grade.Pl1 i broken = refl
  at_between grade.BelowPl1 i broken = refl
  at_between grade.Unsound i broken = absurd i

  -- what PL-3 excludes
  at_third : (g : Grade) → IsGrade h g → (MeetsPl3 h → ⊥) → at_best Pl299 (level_of g) ≡ true
  at_third grade.Pl3 i broken = absurd (broken i)
  at_third grade.Pl299 i broken = refl
  at_third grade.Pl2 i broken = refl
  at_third grade.Pl1 i broken = refl
  at_third grade.BelowPl1 i broken = refl
  at_third grade.Unsound i broken = absurd i

  -- the three lines that PL-2 is about: one of them is found
  read_found : (a b c : Finding) → FindsFault h AbortedRead a → FindsFault h IntermediateRead b → FindsWalk (IsG1c h) c → (MeetsPl2 h → ⊥)
      → (is_found (finding_line part a) || is_found (finding_line part b) || is_found (finding_line part c)) ≡ true
  read_found (At n k row) b c x y z broken = refl
  read_found Absent (At n k row) c x y z broken = refl
  read_found Absent Absent (Walk walk) x y z broken = refl
  read_found Absent Absent Absent x y z broken = absurd (broken (x, y, z))
  read_found Absent Absent (At n k row) x y z broken = absurd z
  read_found Absent Absent NotJudged x y z broken = absurd z
  read_found Absent (Walk walk) c x y z broken = absurd y
  read_found Absent NotJudged c x y z broken = absurd y
  read_found (Walk walk) b c x y z broken = absurd x
  read_found NotJudged b c x y z broken = absurd x

  -- ---- a history in which everything is judged

  module _ (s : Line) (p : Line) (phenomena : List Finding) (g : Grade) (all : JudgesAll h phenomena g) where
    abbrev of_all : Lines
    of_all = record {
      serial = s;
      snapshot = p;
      g0 = finding_line part (found.g0 phenomena);
      g1a = finding_line part (found.g1a phenomena);
      g1b = finding_line part (found.g1b phenomena);
      g1c = finding_line part (found.g1c phenomena);
      g_single = finding_line part (found.g_single phenomena);
      g2_item = finding_line part (found.g2_item phenomena);
      g2 = finding_line part (found.g2 phenomena);
    }

    all_allowed : allows level.NotJudged Pl299 (level_of g) s ≡ true → allows level.NotJudged Pl3 (level_of g) p ≡ true → all_allow (level_of g) of_all ≡ true
    all_allowed serial snapshot =
        both_true (both_true (both_true (both_true (both_true (both_true (both_true (both_true serial
        snapshot)
        (walk_allowed (IsG0 h) level.NotJudged BelowPl1 (level_of g) (found.g0 phenomena) all.0 (at_g0 g all.7)))
        (fault_allowed AbortedRead level.NotJudged Pl1 (level_of g) (found.g1a phenomena) all.1 (λ n k row stands. at_second g all.7 (λ m. m.0 n k row stands))))
        (fault_allowed IntermediateRead level.NotJudged Pl1 (level_of g) (found.g1b phenomena) all.2 (λ n k row stands. at_second g all.7 (λ m. m.1 n k row stands))))
        (walk_allowed (IsG1c h) Pl1 Pl1 (level_of g) (found.g1c phenomena) all.3 (λ es w. at_second g all.7 (λ m. m.2 es w))))
        (walk_allowed (IsGSingle h) Pl1 Pl299 (level_of g) (found.g_single phenomena) all.4 (λ es w. at_third g all.7 (λ m. m.1 es (w.0, omega (arith, w.1))))))
        (walk_allowed (IsG2Item h) Pl1 Pl2 (level_of g) (found.g2_item phenomena) all.5 (λ es w. at_between g all.7 (λ m. m.1 es w))))
        (walk_allowed (IsG2 h) Pl1 Pl299 (level_of g) (found.g2 phenomena) all.6 (λ es w. at_third g all.7 (λ m. m.1 es w)))

    all_shown : ((MeetsPl3 h → ⊥) → is_found s ≡ true) → shows (level_of g) of_all ≡ true
    all_shown serial = at g all.7
      where
        at : (g : Grade) → IsGrade h g → shows (level_of g) of_all ≡ true
        at grade.Pl3 i = refl
        at grade.Pl299 i = both_true (serial i.1) (walk_found (IsG2 h) (found.g2 phenomena) all.6 (λ none. i.1 (i.0.0, none)))
        at grade.Pl2 i =
            both_true (both_true (serial (λ m. i.1 (to_between h m))) (walk_found (IsG2Item h) (found.g2_item phenomena) all.5 (λ none. i.1 (i.0, none))))
            (walk_found (IsG2 h) (found.g2 phenomena) all.6 (λ none. i.1 (to_between h (i.0, none))))
        at grade.Pl1 i = both_true (serial (λ m. i.1 m.0)) (read_found (found.g1a phenomena) (found.g1b phenomena) (found.g1c phenomena) all.1 all.2 all.3 i.1)
        at grade.BelowPl1 i = both_true (serial (λ m. i (to_first h m.0))) (walk_found (IsG0 h) (found.g0 phenomena) all.0 i)
        at grade.Unsound i = absurd i

  -- ---- a history that isn't sound

  not_judged_allowed : (u f l : Level) (F : Finding) → F ≡ NotJudged → at_best u l ≡ true → allows u f l (finding_line part F) ≡ true
  not_judged_allowed u f l F is best = ap (λ F. allows u f l (finding_line part F)) is ∙ best

  not_judged_unclear : (F : Finding) → F ≡ NotJudged → not (is_clear (finding_line part F)) ≡ true
  not_judged_unclear F is = ap (λ F. not (is_clear (finding_line part F))) is

  -- a read of what was never committed is found
  one_read_found : (fault : LocalFault) (a b : Finding) (c : Line) → Stands h fault → is_uncommitted_read fault ≡ true → FindsFault h AbortedRead a → FindsFault h IntermediateRead b
      → (is_found (finding_line part a) || is_found (finding_line part b) || is_found c) ≡ true
  one_read_found fault (At n k row) b c stands t x y = refl
  one_read_found fault Absent (At n k row) c stands t x y = refl
  one_read_found (AbortedRead n k row) Absent Absent c stands t x y = absurd (x n k row stands)
  one_read_found (IntermediateRead n k row) Absent Absent c stands t x y = absurd (y n k row stands)
  one_read_found fault Absent (Walk walk) c stands t x y = absurd y
  one_read_found fault Absent NotJudged c stands t x y = absurd y
  one_read_found fault (Walk walk) b c stands t x y = absurd x
  one_read_found fault NotJudged b c stands t x y = absurd x
  one_read_found other Absent Absent c stands t x y = absurd (false≢true t)

  module _ (s p : List ℕ) (fault : LocalFault) (phenomena : List Finding) where
    abbrev of_fault : Lines
    of_fault = record {
      serial = Found part s;
      snapshot = Found part p;
      g0 = finding_line part (found.g0 phenomena);
      g1a = finding_line part (found.g1a phenomena);
      g1b = finding_line part (found.g1b phenomena);
      g1c = finding_line part (found.g1c phenomena);
      g_single = finding_line part (found.g_single phenomena);
      g2_item = finding_line part (found.g2_item phenomena);
      g2 = finding_line part (found.g2 phenomena);
    }

    abbrev Agree : Grade → Type 0
    Agree g = (all_allow (level_of g) of_fault ≡ true) × (shows (level_of g) of_fault ≡ true)

    reads_agree : (g : Grade) → JudgesReads h phenomena g → Stands h fault → is_uncommitted_read fault ≡ true → Agree g
    reads_agree g reads stands t = at g reads
      where
        broken : MeetsPl2 h → ⊥
        broken m = read_below h fault stands t m

        lines : (g : Grade) → JudgesReads h phenomena g → at_best Pl1 (level_of g) ≡ true → all_allow (level_of g) of_fault ≡ true
        lines g j low =
            both_true (both_true (both_true (both_true (both_true (both_true (both_true (both_true (at_third g j.7 (λ m. broken m.0))
            (at_last (level_of g)))
            (walk_allowed (IsG0 h) level.NotJudged BelowPl1 (level_of g) (found.g0 phenomena) j.0 (at_g0 g j.7)))
            (fault_allowed AbortedRead level.NotJudged Pl1 (level_of g) (found.g1a phenomena) j.1 (λ n k row stands. low)))
            (fault_allowed IntermediateRead level.NotJudged Pl1 (level_of g) (found.g1b phenomena) j.2 (λ n k row stands. low)))
            (not_judged_allowed Pl1 Pl1 (level_of g) (found.g1c phenomena) j.3 low))
            (not_judged_allowed Pl1 Pl299 (level_of g) (found.g_single phenomena) j.4 low))
            (not_judged_allowed Pl1 Pl2 (level_of g) (found.g2_item phenomena) j.5 low))
            (not_judged_allowed Pl1 Pl299 (level_of g) (found.g2 phenomena) j.6 low)

        at : (g : Grade) → JudgesReads h phenomena g → Agree g
        at grade.Pl3 j = absurd (broken j.7.0)
        at grade.Pl299 j = absurd (broken j.7.0.0)
        at grade.Pl2 j = absurd (broken j.7.0)
        at grade.Pl1 j = (lines grade.Pl1 j refl, both_true refl (one_read_found fault (found.g1a phenomena) (found.g1b phenomena) (finding_line part (found.g1c phenomena)) stands t j.1 j.2))
        at grade.BelowPl1 j = (lines grade.BelowPl1 j refl, both_true refl (walk_found (IsG0 h) (found.g0 phenomena) j.0 j.7))
        at grade.Unsound j = absurd j.7

    nothing_agrees : (g : Grade) → JudgesNothing phenomena g → Agree g
    nothing_agrees g j = subst Agree (sym j.7) (
      both_true (both_true (both_true (both_true (both_true (both_true (both_true (both_true refl
          refl)
          (not_judged_allowed level.NotJudged BelowPl1 level.Unsound (found.g0 phenomena) j.0 refl))
          (not_judged_allowed level.NotJudged Pl1 level.Unsound (found.g1a phenomena) j.1 refl))
          (not_judged_allowed level.NotJudged Pl1 level.Unsound (found.g1b phenomena) j.2 refl))
          (not_judged_allowed Pl1 Pl1 level.Unsound (found.g1c phenomena) j.3 refl))
          (not_judged_allowed Pl1 Pl299 level.Unsound (found.g_single phenomena) j.4 refl))
          (not_judged_allowed Pl1 Pl2 level.Unsound (found.g2_item phenomena) j.5 refl))
          (not_judged_allowed Pl1 Pl299 level.Unsound (found.g2 phenomena) j.6 refl),
      both_true refl (both_true (both_true (both_true (both_true (both_true (both_true (both_true (both_true refl
          refl)
          (not_judged_unclear (found.g0 phenomena) j.0))
          (not_judged_unclear (found.g1a phenomena) j.1))
          (not_judged_unclear (found.g1b phenomena) j.2))
          (not_judged_unclear (found.g1c phenomena) j.3))
          (not_judged_unclear (found.g_single phenomena) j.4))
          (not_judged_unclear (found.g2_item phenomena) j.5))
          (not_judged_unclear (found.g2 phenomena) j.6)),
    )

    fault_agrees : (b : Bool) → is_uncommitted_read fault ≡ b → (g : Grade) → JudgesAtRead b h phenomena g → Stands h fault → Agree g
    fault_agrees true is g j stands = reads_agree g j stands is
    fault_agrees false is g j stands = nothing_agrees g j

-- ---- reports

-- a sound history that isn't of the third level has a cycle, and so its serial verdict is a no
meets_third : (h : History) → IsSound h × NoWalk (IsClosedWalk h) → MeetsPl3 h
meets_third h due = ((none_aborted h due.0, none_intermediate h due.0, λ es w. due.1 es w.0), λ es w. due.1 es w.0)

module _ (h : History) (part : List ℕ) (report : Report) (exact : IsExactJudgement h report) where
  abbrev Level_agrees : Type 0
  Level_agrees = (all_allow (level_of report.level) (report_lines part report) ≡ true) × (shows (level_of report.level) (report_lines part report) ≡ true)

  abbrev Agreed : Serial → Places → Type 0
  Agreed s p =
      let lines : Lines = record {
        serial = serial_line part s;
        snapshot = snapshot_line part p;
        g0 = finding_line part (found.g0 report.phenomena);
        g1a = finding_line part (found.g1a report.phenomena);
        g1b = finding_line part (found.g1b report.phenomena);
        g1c = finding_line part (found.g1c report.phenomena);
        g_single = finding_line part (found.g_single report.phenomena);
        g2_item = finding_line part (found.g2_item report.phenomena);
        g2 = finding_line part (found.g2 report.phenomena);
      } in (all_allow (level_of report.level) lines ≡ true) × (shows (level_of report.level) lines ≡ true)

  report_agrees : Level_agrees
  report_agrees = at report.serial report.snapshot refl refl exact.judgement.fault exact.judgement.serial exact.judgement.found
    where
      snapshot_allowed : (l : Level) (p : Places) → allows level.NotJudged Pl3 l (snapshot_line part p) ≡ true
      snapshot_allowed l (places.Yes spans) = refl
      snapshot_allowed l (places.NoFault f) = at_last l
      snapshot_allowed l (places.NoCycle points) = at_last l

      at : (s : Serial) (p : Places) → report.serial ≡ s → report.snapshot ≡ p → SameFault s p → IsSerialVerdict h s → Judges h s report.phenomena report.level → Agreed s p
      at (serial.Yes order) p is_s is_p same verdict judged = (
        all_allowed h part (serial_line part (serial.Yes order)) (snapshot_line part p) report.phenomena report.level judged refl (snapshot_allowed (level_of report.level) p),
        all_shown h part (serial_line part (serial.Yes order)) (snapshot_line part p) report.phenomena report.level judged
            (λ broken. absurd (broken (meets_third h ((yes_where h report exact).0 (subst IsYes (sym is_s) tt))))),
      )
      at (serial.NoCycle walk) p is_s is_p same verdict judged = (
        all_allowed h part (serial_line part (serial.NoCycle walk)) (snapshot_line part p) report.phenomena report.level judged
            (at_third h part report.level judged.7 (λ m. no_cycle h m walk verdict.1)) (snapshot_allowed (level_of report.level) p),
        all_shown h part (serial_line part (serial.NoCycle walk)) (snapshot_line part p) report.phenomena report.level judged (λ broken. refl),
      )
      at (serial.NoFault f) (places.NoFault g) is_s is_p same verdict judged = fault_agrees h part (no_reason (serial_text (serial.NoFault f))) (no_reason (places_text (places.NoFault g))) f report.phenomena (is_uncommitted_read f) refl report.level judged verdict.0
      at (serial.NoFault f) (places.Yes spans) is_s is_p same verdict judged = absurd same
      at (serial.NoFault f) (places.NoCycle points) is_s is_p same verdict judged = absurd same

-- ---- parts and runs

pub coherent_part : (p : Part) → IsPart p → is_coherent (of_part p) ≡ true
coherent_part p is = at p.outcome is.0 is.1
  where
    at : (o : Outcome) (input : Option (List ℕ)) → IsOutcome input o → is_coherent (part_summary p.name o) ≡ true
    at (Judged report initial last) None called = absurd called
    at (Judged report initial last) (Some bytes) called = let agrees = report_agrees called.0 p.name report called.2 in both_true (both_true (both_true refl agrees.0) agrees.1) refl
    at (Refused f) input called = refl
    at Unreadable input called = refl

coherent_from : (s : Summary) (ps : List Part) → is_coherent s ≡ true → All IsPart ps → is_coherent (fold with_part s ps) ≡ true
coherent_from s [] is all = is
coherent_from s (p ∷ ps) is all = coherent_from (with_part s p) ps (coherent_joined s (of_part p) is (coherent_part p (All-head IsPart p ps all))) (All-tail IsPart p ps all)

pub coherent_run : (ps : List Part) → ps ≢ [] → All IsPart ps → is_coherent (summary_of ps) ≡ true
coherent_run [] some all = absurd (some refl)
coherent_run (p ∷ ps) some all =
    coherent_from (with_part nothing p) ps
    (subst (λ s. is_coherent s ≡ true) (sym (nothing_before (of_part p) (counts_one p.name p.outcome))) (coherent_part p (All-head IsPart p ps all)))
    (All-tail IsPart p ps all)
