-- A report that keeps a requirement is of a history in which a transaction committed.
use Rattle.std.{proofs.{Common.{◌≡◌, ℕ, Bool, true, false, not, List, [], ◌∷◌, refl, sym, ap, ◌∙◌, arith}, lemmas.Bool.{and_parts, false≢true}}, specs.Prelude.{nat_le}}
use Rattle.lab_history.specs.History.{History}
use Rattle.lab_deps.{specs.{Refusal.{is_uncommitted_read}, Soundness.{Stands}, declared.{edge.Edge.{Edge}, fault.LocalFault.{LocalFault, TheVariants.{AbortedRead, IntermediateRead}}}}, proofs.Places.{times_here}}
use Rattle.lab_judge.specs.{Judgement.{IsExactJudgement, IsSerialVerdict, SameFault, Judges, JudgesAtRead}, Phenomena.{IsClosedWalk}, Runs.{HoldsEachOnce}, declared.{places.Places.{Places}, report.Report.{Report}, serial.Serial.{Serial}}}
use Rattle.lab_judge.specs.declared.places.Places.TheVariants as places
use Rattle.lab_judge.specs.declared.serial.Serial.TheVariants as serial
use Rattle.lab_judge.proofs.Orders.{committed_in}
use Rattle.lab_reports.specs.{Requirements.{levels_met, is_yes, meets}, declared.requirement.Requirement.{Requirement, TheVariants.{Pl1, Pl2, Pl299, Pl3, Snapshot}}}
use Rattle.lab_streams.specs.Reports.{is_empty_yes, is_idle, keeps, HasCommitted}

-- an unsound history that isn't a snapshot run meets nothing
unsound_meets_none : (requirement : Requirement) (report : Report) → levels_met report.level ≡ 0 → is_yes report.snapshot ≡ false → meets requirement report ≡ true → ⊥
unsound_meets_none Pl1 report none unplaced met = false≢true (sym (ap (nat_le 1) none) ∙ met)
unsound_meets_none Pl2 report none unplaced met = false≢true (sym (ap (nat_le 2) none) ∙ met)
unsound_meets_none Pl299 report none unplaced met = false≢true (sym (ap (nat_le 3) none) ∙ met)
unsound_meets_none Pl3 report none unplaced met = false≢true (sym (ap (nat_le 4) none) ∙ met)
unsound_meets_none Snapshot report none unplaced met = false≢true (sym unplaced ∙ met)

module _ (h : History) where
  -- the first transaction of an order
  of_order : (n : ℕ) (order : List ℕ) → HoldsEachOnce h (n ∷ order) → HasCommitted h
  of_order n order once = (n, committed_in h (n ∷ order) once n (omega (arith, times_here n n order refl)))

  -- the first transaction of a cycle
  of_walk : (walk : List Edge) → IsClosedWalk h walk → HasCommitted h
  of_walk [] closed = absurd closed
  of_walk (e ∷ es) closed = (e.from, closed.0.0)

  -- the transaction that reads what was never committed
  of_read : (fault : LocalFault) → Stands h fault → is_uncommitted_read fault ≡ true → HasCommitted h
  of_read (AbortedRead n k row) stands t = (n, stands.1.0)
  of_read (IntermediateRead n k row) stands t = (n, stands.1.0)
  of_read other stands t = absurd (false≢true t)

  module _ (requirement : Requirement) (report : Report) (met : meets requirement report ≡ true) where
    of_fault : (b : Bool) (fault : LocalFault) → is_uncommitted_read fault ≡ b → Stands h fault → JudgesAtRead b h report.phenomena report.level → is_yes report.snapshot ≡ false → HasCommitted h
    of_fault true fault is stands judged unplaced = of_read fault stands is
    of_fault false fault is stands judged unplaced = absurd (unsound_meets_none requirement report (ap levels_met judged.7) unplaced met)

    of_verdict : (s : Serial) (p : Places) → report.snapshot ≡ p → SameFault s p → IsSerialVerdict h s → Judges h s report.phenomena report.level → not (is_empty_yes s) ≡ true → HasCommitted h
    of_verdict (serial.Yes []) p is same verdict judged some = absurd (false≢true some)
    of_verdict (serial.Yes (n ∷ order)) p is same verdict judged some = of_order n order verdict.each_once
    of_verdict (serial.NoCycle walk) p is same verdict judged some = of_walk walk verdict.1
    of_verdict (serial.NoFault f) (places.NoFault g) is same verdict judged some = of_fault (is_uncommitted_read f) f refl verdict.0 judged (ap is_yes is)
    of_verdict (serial.NoFault f) (places.Yes spans) is same verdict judged some = absurd same
    of_verdict (serial.NoFault f) (places.NoCycle points) is same verdict judged some = absurd same

pub kept_by_committed : (h : History) (requirement : Requirement) (report : Report) → IsExactJudgement h report → keeps requirement report ≡ true → HasCommitted h
kept_by_committed h requirement report exact kept =
    let both : (meets requirement report ≡ true) × (not (is_idle report) ≡ true) = and_parts (meets requirement report) (not (is_idle report)) kept in
    of_verdict h requirement report both.0 report.serial report.snapshot refl exact.judgement.fault exact.judgement.serial exact.judgement.found both.1
