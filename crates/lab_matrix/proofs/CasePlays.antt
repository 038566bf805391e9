-- A case's play at a level, in the words of the matrix.
use Rattle.std.{proofs.{Common.{◌≡◌, ◌<◌, ℕ, suc, inl, inr, Ok, refl, sym, ap, ◌∙◌, subst, arith}, lemmas.Bool.{cases_lt}}, specs.Prelude.{◌==◌, Bool, true, false, if◌then◌else◌}}
use Rattle.lab_table.specs.Table.{Table}
use Rattle.lab_script.specs.declared.script.Script.{Script}
use Rattle.lab_history.specs.FirstPartsFault.{checked}
use Rattle.lab_engine.specs.{declared.event.Level.{Level}, RuleTable.{rules_of, keeps_reads, keeps_snapshots}, RecordedLog.{RecordedLog}, Log.{past_of}, Recording.{IsRecording}}
use Rattle.lab_session.specs.{Play.{given_lines, IsLegalPlay, IsScriptedFault}, declared.fault.PlayFault.{PlayFault}}
use Rattle.lab_judge.specs.{Judgement.{IsExactJudgement}, Promises.{IsPromised, PromisedBy}, declared.report.Report.{Report}}
use Rattle.lab_matrix.specs.Listings.{usual_setup, case_script, listing}
use Rattle.lab_matrix.specs.Matrix.{IsCell, IsRow, AreCells, KeepsPromises, IsRecorded, case_place, column_place, level_of, Precedes, IsCellFault, IsRowFault, IsMatrixFault, cell_of}
use Rattle.lab_matrix.specs.EnginePromise.{Says, promise_by, promise_of}
use Rattle.lab_matrix.specs.declared.{filling.MatrixFault.{MatrixFault, TheVariants.{NoMemory, Play}}, cells.{Column.{Column}, Row.{Row}, Matrix.{Matrix}}, name.CaseName.{CaseName}}
use Rattle.lab_matrix.specs.declared.cells.Column.TheVariants as column
use Rattle.lab_matrix.specs.declared.name.CaseName.TheVariants as name

-- an engine of the level on the case's setup
module _ (case : CaseName) (at kind : Level) (opening : Table) (script : Script) (script_is : script ≡ case_script case) (opening_is : opening ≡ script.setup) (kind_is : kind ≡ at) where
  -- the engine begins with the usual setup
  on_usual : opening ≡ usual_setup
  on_usual = opening_is ∙ ap (λ s. s.setup) script_is

  -- what is said of the engine's level and setup and the script's lines is said of the level and the case
  moved : (P : Level → Table → Script → Type 0) → P kind opening script → P at usual_setup (case_script case)
  moved P p = subst (λ k. P k usual_setup (case_script case)) kind_is (subst (λ t. P kind t (case_script case)) on_usual (subst (λ s. P kind opening s) script_is p))

  -- a judgement of the recording of its play is the case's cell
  pub cell_is : (recording : RecordedLog) (report : Report) → recording.level ≡ kind → recording.setup ≡ opening → IsLegalPlay kind opening (given_lines script.lines) recording.log
      → IsRecording opening (past_of recording.log) recording.history → checked recording.history ≡ Ok tt → IsExactJudgement recording.history report → IsPromised recording.level report → IsCell case at report
  cell_is recording report same on play history whole judged promised = record {
    recording = recording;
    level_is = same ∙ kind_is;
    setup_is = on ∙ on_usual;
    play = moved (λ k t s. IsLegalPlay k t (given_lines s.lines) recording.log) play;
    history = moved (λ k t s. IsRecording t (past_of recording.log) recording.history) history;
    whole = whole;
    judged = judged;
    promised = subst (λ k. IsPromised k report) (same ∙ kind_is) promised;
  }

  -- a refusal of its play is one of the case's play
  pub fault_is : (fault : PlayFault) → IsScriptedFault kind opening (given_lines script.lines) fault → IsScriptedFault at usual_setup (given_lines (listing case)) fault
  fault_is fault faulty = moved (λ k t s. IsScriptedFault k t (given_lines s.lines) fault) faulty

-- a row whose cells are those of a case in the columns
pub each_column : (case : CaseName) (row : Row) → IsCell case (level_of column.Locking) row.locking → IsCell case (level_of column.Committed) row.committed
    → IsCell case (level_of column.Snapshot) row.snapshot → IsRow case row
each_column case row locking committed snapshot column.Locking = locking
each_column case row locking committed snapshot column.Committed = committed
each_column case row locking committed snapshot column.Snapshot = snapshot

-- a matrix whose rows are those of the ten cases
pub each_case : (m : Matrix) → IsRow name.G0 m.g0 → IsRow name.G1a m.g1a → IsRow name.G1b m.g1b → IsRow name.G1c m.g1c → IsRow name.Otv m.otv → IsRow name.Pmp m.pmp → IsRow name.P4 m.p4
    → IsRow name.GSingle m.g_single → IsRow name.G2Item m.g2_item → IsRow name.G2 m.g2 → AreCells m
each_case m g0 g1a g1b g1c otv pmp p4 g_single g2_item g2 name.G0 at = g0 at
each_case m g0 g1a g1b g1c otv pmp p4 g_single g2_item g2 name.G1a at = g1a at
each_case m g0 g1a g1b g1c otv pmp p4 g_single g2_item g2 name.G1b at = g1b at
each_case m g0 g1a g1b g1c otv pmp p4 g_single g2_item g2 name.G1c at = g1c at
each_case m g0 g1a g1b g1c otv pmp p4 g_single g2_item g2 name.Otv at = otv at
each_case m g0 g1a g1b g1c otv pmp p4 g_single g2_item g2 name.Pmp at = pmp at
each_case m g0 g1a g1b g1c otv pmp p4 g_single g2_item g2 name.P4 at = p4 at
each_case m g0 g1a g1b g1c otv pmp p4 g_single g2_item g2 name.GSingle at = g_single at
each_case m g0 g1a g1b g1c otv pmp p4 g_single g2_item g2 name.G2Item at = g2_item at
each_case m g0 g1a g1b g1c otv pmp p4 g_single g2_item g2 name.G2 at = g2 at

-- a report says what is promised
said_by : (reads snapshots : Bool) (report : Report) → PromisedBy reads snapshots report → Says (promise_by reads snapshots) report
said_by true snapshots report promised = promised
said_by false true report promised = promised
said_by false false report promised = promised

pub said : (at : Level) (report : Report) → IsPromised at report → Says (promise_of at) report
said at report = said_by (keeps_reads (rules_of at)) (keeps_snapshots (rules_of at)) report

-- so do the cells of a matrix
pub promises_kept : (m : Matrix) → AreCells m → KeepsPromises m
promises_kept m cells case at = said (level_of at) (cell_of m case at) (cells case at).promised

-- a cell's play has a recording
pub recorded : (case : CaseName) (at : Level) (report : Report) → IsCell case at report → IsRecorded case at
recorded case at report cell = record { log = cell.recording.log; told = cell.recording.history; play = cell.play; history = cell.history; whole = cell.whole }

-- a refusal of a cell is the first of its row, where the columns before it have their recordings
pub first_of_row : (case : CaseName) (under : Column) (fault : MatrixFault) → ((at : Column) → column_place at < column_place under → IsRecorded case (level_of at))
    → IsCellFault case (level_of under) fault → IsRowFault case fault
first_of_row case under NoMemory before is = tt
first_of_row case under (Play own level fault) before (own_is, level_is, faulty) = (under, level_is, own_is, faulty, before)

-- nothing stands before the first column
pub none_before : (case : CaseName) (at : Column) → column_place at < 0 → IsRecorded case (level_of at)
none_before case at before = absurd (omega (arith, before))

-- the first column stands before the second
pub one_before : (case : CaseName) → IsRecorded case (level_of column.Locking) → (at : Column) → column_place at < 1 → IsRecorded case (level_of at)
one_before case locking column.Locking before = locking
one_before case locking column.Committed before = absurd (omega (arith, before))
one_before case locking column.Snapshot before = absurd (omega (arith, before))

-- and both before the third
pub two_before : (case : CaseName) → IsRecorded case (level_of column.Locking) → IsRecorded case (level_of column.Committed) → (at : Column) → column_place at < 2
    → IsRecorded case (level_of at)
two_before case locking committed column.Locking before = locking
two_before case locking committed column.Committed before = committed
two_before case locking committed column.Snapshot before = absurd (omega (arith, before))

-- the case at a place
case_at : ℕ → CaseName
case_at place =
    if place == 0 then name.G0
    else if place == 1 then name.G1a
    else if place == 2 then name.G1b
    else if place == 3 then name.G1c
    else if place == 4 then name.Otv
    else if place == 5 then name.Pmp
    else if place == 6 then name.P4
    else if place == 7 then name.GSingle
    else if place == 8 then name.G2Item
    else name.G2

at_its_place : (case : CaseName) → case_at (case_place case) ≡ case
unfolding case_at
at_its_place name.G0 = refl
at_its_place name.G1a = refl
at_its_place name.G1b = refl
at_its_place name.G1c = refl
at_its_place name.Otv = refl
at_its_place name.Pmp = refl
at_its_place name.P4 = refl
at_its_place name.GSingle = refl
at_its_place name.G2Item = refl
at_its_place name.G2 = refl

-- the column at a place
column_at : ℕ → Column
column_at place = if place == 0 then column.Locking else if place == 1 then column.Committed else column.Snapshot

column_at_its_place : (at : Column) → column_at (column_place at) ≡ at
unfolding column_at
column_at_its_place column.Locking = refl
column_at_its_place column.Committed = refl
column_at_its_place column.Snapshot = refl

-- a place is that of one case
pub same_place : (case other : CaseName) → case_place case ≡ case_place other → case ≡ other
same_place case other same = sym (at_its_place case) ∙ ap case_at same ∙ at_its_place other

-- and one of one column
pub same_column : (at other : Column) → column_place at ≡ column_place other → at ≡ other
same_column at other same = sym (column_at_its_place at) ∙ ap column_at same ∙ column_at_its_place other

-- the plays of all cases before a place have recordings
abbrev pub RecordedBefore : ℕ → Type 0
RecordedBefore place = (case : CaseName) (at : Column) → case_place case < place → IsRecorded case (level_of at)

pub before_first : RecordedBefore 0
before_first case at before = absurd (omega (arith, before))

-- so have those before the next one, where those of a row have
pub before_next : (own : CaseName) (row : Row) → RecordedBefore (case_place own) → IsRow own row → RecordedBefore (suc (case_place own))
before_next own row before cells case at low = elim (cases_lt (case_place case) (case_place own)) [
  | inl less ↦ before case at less
  | inr above ↦
      subst (λ c. IsRecorded c (level_of at)) (sym (same_place case own (omega (arith, above, low)))) (recorded own (level_of at) _ (cells at))
]

-- a refusal that is the first of a row is the first of the matrix, where the rows before it have their recordings
pub first_of_all : (own : CaseName) (fault : MatrixFault) → RecordedBefore (case_place own) → IsRowFault own fault → IsMatrixFault fault
first_of_all own NoMemory before is = tt
first_of_all own (Play case level fault) before (under, level_is, case_is, faulty, earlier) =
    (faulty, record { column = under; level_is = level_is; before = λ other at precedes. earlier_one other at precedes })
  where
    earlier_one : (other : CaseName) (at : Column) → Precedes other at case under → IsRecorded other (level_of at)
    earlier_one other at (inl less) = before other at (subst (λ c. case_place other < case_place c) case_is less)
    earlier_one other at (inr (same, lower)) = subst (λ c. IsRecorded c (level_of at)) (sym (same ∙ case_is)) (earlier at lower)
