-- The cases at one level after another.
use Rattle.std.proofs.{Common.{◌≡◌, ◌<◌, ℕ, suc, inl, inr, List, [], ◌∷◌, ◌++◌, sym, ap, ◌∙◌, subst, arith}, lemmas.{Bool.{cases_lt}, List.{append_assoc, append-nil}}}
use Rattle.lab_engine.specs.declared.event.Level.{Level}
use Rattle.lab_judge.specs.declared.report.Report.{Report}
use Rattle.lab_matrix.specs.Matrix.{IsCell, IsRecorded, IsCellFault, case_place}
use Rattle.lab_matrix.specs.Columns.{report_of, AreReports, KeepPromise, AllRecorded, IsFirstAt, AreColumns, KeepPromises, IsFirstAmong, IsColumnsFault}
use Rattle.lab_matrix.specs.declared.{columns.CaseReports.{CaseReports}, filling.MatrixFault.{MatrixFault, TheVariants.{NoMemory, Play}}, name.CaseName.{CaseName}}
use Rattle.lab_matrix.specs.declared.name.CaseName.TheVariants as name
use Rattle.lab_matrix.proofs.CasePlays.{recorded, said, same_place}

-- ---- one level

-- the judgements of the ten cases
pub each_report : (level : Level) (r : CaseReports) → r.level ≡ level → IsCell name.G0 level r.g0 → IsCell name.G1a level r.g1a → IsCell name.G1b level r.g1b → IsCell name.G1c level r.g1c → IsCell name.Otv level r.otv
    → IsCell name.Pmp level r.pmp → IsCell name.P4 level r.p4 → IsCell name.GSingle level r.g_single → IsCell name.G2Item level r.g2_item → IsCell name.G2 level r.g2 → AreReports level r
each_report level r at g0 g1a g1b g1c otv pmp p4 g_single g2_item g2 = record { at_level = at; cells = by }
  where
    by : (case : CaseName) → IsCell case level (report_of r case)
    by name.G0 = g0
    by name.G1a = g1a
    by name.G1b = g1b
    by name.G1c = g1c
    by name.Otv = otv
    by name.Pmp = pmp
    by name.P4 = p4
    by name.GSingle = g_single
    by name.G2Item = g2_item
    by name.G2 = g2

-- they say what is promised
pub promise_kept : (level : Level) (r : CaseReports) → AreReports level r → KeepPromise level r
promise_kept level r are case = said level (report_of r case) (are.cells case).promised

-- their plays have recordings
pub all_recorded : (level : Level) (r : CaseReports) → AreReports level r → AllRecorded level
all_recorded level r are case = recorded case level (report_of r case) (are.cells case)

-- the plays of the cases before a place have recordings
abbrev pub RecordedUnder : Level → ℕ → Type 0
RecordedUnder level place = (case : CaseName) → case_place case < place → IsRecorded case level

pub under_first : (level : Level) → RecordedUnder level 0
under_first level case before = absurd (omega (arith, before))

-- so have those before the next one, where that of a case has
pub under_next : (level : Level) (own : CaseName) (report : Report) → RecordedUnder level (case_place own) → IsCell own level report → RecordedUnder level (suc (case_place own))
under_next level own report before cell case low = elim (cases_lt (case_place case) (case_place own)) [
  | inl less ↦ before case less
  | inr above ↦
      subst (λ c. IsRecorded c level) (sym (same_place case own (omega (arith, above, low)))) (recorded own level report cell)
]

-- a refusal of a case is the first at its level, where the cases before it have their recordings
pub first_at : (level : Level) (own : CaseName) (fault : MatrixFault) → RecordedUnder level (case_place own) → IsCellFault own level fault → IsFirstAt level fault
first_at level own NoMemory before is = tt
first_at level own (Play case at fault) before (own_is, at_is, faulty) = (at_is, faulty, subst (λ c. RecordedUnder level (case_place c)) (sym own_is) before)

-- ---- one level after another

-- the columns so far and those of the levels left are those of all, and a first refusal among those left is the first of all
pub record SoFar (levels left : List Level) (columns : List CaseReports) : Type 0 where
  pub whole : (more : List CaseReports) → AreColumns left more → AreColumns levels (columns ++ more)
  pub first : (fault : MatrixFault) → IsFirstAmong left fault → IsFirstAmong levels fault

pub none_so_far : (levels : List Level) → SoFar levels levels []
none_so_far levels = record { whole = λ more are. are; first = λ fault is. is }

-- one more
pub next_so_far : (levels left rest : List Level) (level : Level) (columns more : List CaseReports) (column : CaseReports) → left ≡ level ∷ rest → more ≡ columns ++ column ∷ []
    → AreReports level column → SoFar levels left columns → SoFar levels rest more
next_so_far levels left rest level columns more column first grown is so_far = record {
  whole = λ later are.
      let all : AreColumns levels (columns ++ column ∷ later) = so_far.whole (column ∷ later) (subst (λ l. AreColumns l (column ∷ later)) (sym first) (is, are)) in
      subst (AreColumns levels) (sym (ap (λ m. m ++ later) grown ∙ append_assoc columns (column ∷ []) later)) all;
  first = λ fault refused. so_far.first fault (subst (λ l. IsFirstAmong l fault) (sym first) (inr (all_recorded level column is, refused)));
}

-- none left
pub all_so_far : (levels left : List Level) (columns : List CaseReports) → left ≡ [] → SoFar levels left columns → AreColumns levels columns
all_so_far levels left columns none so_far =
    subst (AreColumns levels) (append-nil columns) (so_far.whole [] (subst (λ l. AreColumns l []) (sym none) tt))

-- a refusal at the next level is the first of all
pub refused_next : (levels left rest : List Level) (level : Level) (columns : List CaseReports) (fault : MatrixFault) → left ≡ level ∷ rest → SoFar levels left columns
    → IsFirstAt level fault → IsFirstAmong levels fault
refused_next levels left rest level columns fault first so_far faulty = so_far.first fault (subst (λ l. IsFirstAmong l fault) (sym first) (inl faulty))

-- so it is true of these levels
pub refusal_at : (levels : List Level) (fault : MatrixFault) → IsFirstAmong levels fault → IsColumnsFault levels fault
refusal_at levels NoMemory first = tt
refusal_at levels (Play case level fault) first = first

-- all say what is promised
pub promises_kept_at : (levels : List Level) (columns : List CaseReports) → AreColumns levels columns → KeepPromises columns
promises_kept_at [] [] are = tt
promises_kept_at [] (column ∷ columns) are = absurd are
promises_kept_at (level ∷ levels) [] are = absurd are
promises_kept_at (level ∷ levels) (column ∷ columns) are =
    let one = are.0 in
    (subst (λ l. KeepPromise l column) (sym one.at_level) (promise_kept level column one), promises_kept_at levels columns are.1)
