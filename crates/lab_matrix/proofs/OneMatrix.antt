-- There is one text of the matrix, and where there is no matrix one refusal of it.
use Rattle.std.proofs.{Common.{◌≡◌, inl, inr, sym, ap, subst, ◌∙◌, arith}, lemmas.Bool.{cases_lt}}
use Rattle.lab_engine.{specs.{declared.event.Level.{Level}, Log.{past_of}, Recording.{IsRecording}}, proofs.OneRecording.{one_recording}}
use Rattle.lab_session.{specs.{Play.{given_lines}, declared.fault.PlayFault.{PlayFault}}, proofs.OnePlay.{one_play, no_fault, one_fault}}
use Rattle.lab_judge.{specs.{Judgement.{IsExactJudgement}, declared.report.Report.{Report}}, proofs.OneJudgement.{one_judgement}}
use Rattle.lab_matrix.specs.Listings.{usual_setup, listing}
use Rattle.lab_matrix.specs.Matrix.{IsCell, IsRow, AreCells, IsRecorded, IsUnrecorded, IsFirstCell, Precedes, case_place, column_place, level_of, cell_of}
use Rattle.lab_matrix.specs.MatrixText.{matrix_text}
use Rattle.lab_matrix.specs.declared.{cells.{Column.{Column}, Matrix.{Matrix}, Row.{Row}}, name.CaseName.{CaseName}}
use Rattle.lab_matrix.specs.declared.cells.Column.TheVariants as column
use Rattle.lab_matrix.specs.declared.name.CaseName.TheVariants as name
use Rattle.lab_matrix.proofs.CasePlays.{recorded, same_place, same_column}

-- a case has one report at a level
pub one_cell : (case : CaseName) (at : Level) (one other : Report) → IsCell case at one → IsCell case at other → one ≡ other
one_cell case at one other c d =
    let log : d.recording.log ≡ c.recording.log = one_play at usual_setup (given_lines (listing case)) d.recording.log c.recording.log d.play c.play in
    let told : d.recording.history ≡ c.recording.history
    = one_recording usual_setup (past_of c.recording.log) d.recording.history c.recording.history (subst (λ l. IsRecording usual_setup (past_of l) d.recording.history) log d.history) c.history in
    one_judgement c.recording.history one other c.judged (subst (λ h. IsExactJudgement h other) told d.judged)

-- and one row
one_row : (case : CaseName) (r s : Row) → IsRow case r → IsRow case s → r ≡ s
one_row case r s x y =
    ap (λ l. record { locking = l; committed = r.committed; snapshot = r.snapshot }) (one_cell case (level_of column.Locking) r.locking s.locking (x column.Locking) (y column.Locking))
    ∙ ap (λ c. record { locking = s.locking; committed = c; snapshot = r.snapshot }) (one_cell case (level_of column.Committed) r.committed s.committed (x column.Committed) (y column.Committed))
    ∙ ap (λ t. record { locking = s.locking; committed = s.committed; snapshot = t }) (one_cell case (level_of column.Snapshot) r.snapshot s.snapshot (x column.Snapshot) (y column.Snapshot))

-- matrices whose rows are the same have one text
same_text : (m n : Matrix) → m.g0 ≡ n.g0 → m.g1a ≡ n.g1a → m.g1b ≡ n.g1b → m.g1c ≡ n.g1c → m.otv ≡ n.otv → m.pmp ≡ n.pmp → m.p4 ≡ n.p4 → m.g_single ≡ n.g_single
    → m.g2_item ≡ n.g2_item → m.g2 ≡ n.g2 → matrix_text m ≡ matrix_text n
same_text m n g0 g1a g1b g1c otv pmp p4 g_single g2_item g2 = cc

-- so there is one text of the matrix
pub one_text : (m n : Matrix) → AreCells m → AreCells n → matrix_text m ≡ matrix_text n
one_text m n x y =
    same_text m n (one_row name.G0 m.g0 n.g0 (x name.G0) (y name.G0)) (one_row name.G1a m.g1a n.g1a (x name.G1a) (y name.G1a)) (one_row name.G1b m.g1b n.g1b (x name.G1b) (y name.G1b))
    (one_row name.G1c m.g1c n.g1c (x name.G1c) (y name.G1c)) (one_row name.Otv m.otv n.otv (x name.Otv) (y name.Otv)) (one_row name.Pmp m.pmp n.pmp (x name.Pmp) (y name.Pmp))
    (one_row name.P4 m.p4 n.p4 (x name.P4) (y name.P4)) (one_row name.GSingle m.g_single n.g_single (x name.GSingle) (y name.GSingle))
    (one_row name.G2Item m.g2_item n.g2_item (x name.G2Item) (y name.G2Item)) (one_row name.G2 m.g2 n.g2 (x name.G2) (y name.G2))

-- a play that has a recording isn't refused
pub not_both : (case : CaseName) (at : Level) (fault : PlayFault) → IsRecorded case at → IsUnrecorded case at fault → ⊥
not_both case at fault r (told, faulty) = no_fault at usual_setup (given_lines (listing case)) r.log r.told r.play r.history r.whole fault told faulty

-- so a matrix excludes a refusal
pub no_refusal : (m : Matrix) (case : CaseName) (level : Level) (fault : PlayFault) → AreCells m → IsUnrecorded case level fault → IsFirstCell case level → ⊥
no_refusal m case level fault cells unrecorded first =
    let at : Column = first.column in
    not_both case (level_of at) fault (recorded case (level_of at) (cell_of m case at) (cells case at)) (subst (λ l. IsUnrecorded case l fault) first.level_is unrecorded)

-- A refusal that is the first.
module _ (case other : CaseName) (at under : Column) (fault again : PlayFault) (faulty : IsUnrecorded case (level_of at) fault) (told : IsUnrecorded other (level_of under) again)
    (before : (c : CaseName) (l : Column) → Precedes c l case at → IsRecorded c (level_of l)) (earlier : (c : CaseName) (l : Column) → Precedes c l other under → IsRecorded c (level_of l)) where
  -- neither stands before the other
  not_before : Precedes case at other under → ⊥
  not_before p = not_both case (level_of at) fault (earlier case at p) faulty

  not_behind : Precedes other under case at → ⊥
  not_behind p = not_both other (level_of under) again (before other under p) told

  -- so they are of one case
  one_case : case ≡ other
  one_case = elim (cases_lt (case_place case) (case_place other)) [
    | inl less ↦ absurd (not_before (inl less))
    | inr above ↦ elim (cases_lt (case_place other) (case_place case)) [
      | inl more ↦ absurd (not_behind (inl more))
      | inr level ↦ same_place case other (omega (arith, above, level))
    ]
  ]

  -- in one column
  one_column : at ≡ under
  one_column = elim (cases_lt (column_place at) (column_place under)) [
    | inl less ↦ absurd (not_before (inr (one_case, less)))
    | inr above ↦ elim (cases_lt (column_place under) (column_place at)) [
      | inl more ↦ absurd (not_behind (inr (sym one_case, more)))
      | inr level ↦ same_column at under (omega (arith, above, level))
    ]
  ]

  -- and one fault
  one_fault_there : fault ≡ again
  one_fault_there =
      let moved : IsUnrecorded case (level_of at) again =
      subst (λ c. IsUnrecorded c (level_of at) again) (sym one_case) (subst (λ l. IsUnrecorded other (level_of l) again) (sym one_column) told) in
      one_fault (level_of at) usual_setup (given_lines (listing case)) fault again faulty.0 moved.0 faulty.1 moved.1

pub one_refusal : (case other : CaseName) (level below : Level) (fault again : PlayFault) → IsUnrecorded case level fault → IsUnrecorded other below again
    → IsFirstCell case level → IsFirstCell other below → fault ≡ again
one_refusal case other level below fault again faulty told first earlier =
    one_fault_there case other first.column earlier.column fault again (subst (λ l. IsUnrecorded case l fault) first.level_is faulty)
    (subst (λ l. IsUnrecorded other l again) earlier.level_is told) first.before earlier.before
