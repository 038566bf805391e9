-- A walk that a report names is closed, and the rows are installed by their committed writers.
use Rattle.std.{proofs.Common.{◌≡◌, ℕ, ◌<◌, Bool, true, false, Option, Some, None, List, inl, refl, sym, ◌∙◌, subst, arith}, specs.Prelude.{nat_le}}
use Rattle.lab_table.specs.Row.{Row}
use Rattle.lab_history.specs.History.{History}
use Rattle.lab_deps.{specs.{FaultOrder.{IsFirst, kind_place}, Refusal.{is_uncommitted_read}, Soundness.{Stands, IsSound}, declared.{edge.Edge.{Edge}, fault.LocalFault.{LocalFault, TheVariants.{AbortedRead, IntermediateRead, InstallOrder}}}}, proofs.FaultOrders.{reads_last}}
use Rattle.lab_judge.specs.Judgement.{IsSerialVerdict, IsExactJudgement, FindsWalk, FindsFault, Judges, JudgesAll, JudgesReads, JudgesNothing, JudgesAtRead, JudgesAtFault, RestsOnOrder}
use Rattle.lab_judge.specs.Phenomena.{IsClosedWalk, IsG0, IsG1c, IsGSingle, IsG2Item, IsG2}
use Rattle.lab_judge.specs.declared.{report.{Finding.{Finding, TheVariants.{Absent, Walk, At, NotJudged}}, Report.{Report}}, serial.Serial.{Serial}}
use Rattle.lab_judge.specs.declared.serial.Serial.TheVariants as serial
use Rattle.lab_drawing.specs.ArrowLaws.{NamesWalk}
use Rattle.lab_reports.specs.{Phenomena.{finding_of}, declared.phenomenon.Phenomenon.{Phenomenon, TheVariants.{G0, G1a, G1b, G1c, GSingle, G2Item, G2}}}

-- something was judged
abbrev WasJudged : Finding → Type 0
WasJudged Absent = Unit {0}
WasJudged (Walk walk) = Unit {0}
WasJudged (At n k row) = Unit {0}
WasJudged NotJudged = ⊥

-- a walk isn't found where nothing was judged
not_both : (found : Finding) (walk : List Edge) → found ≡ Walk walk → found ≡ NotJudged → ⊥
not_both found walk is none = subst WasJudged (sym is ∙ none) tt

-- a walk that is found, and whose rows are installed by their committed writers
pub record IsFound (h : History) (walk : List Edge) : Type 0 where
  pub closed : IsClosedWalk h walk
  pub installed : (row : Row) → Stands h (InstallOrder row) → ⊥

module _ (h : History) (report : Report) (walk : List Edge) where
  -- where all is judged
  of_all : JudgesAll h report.phenomena report.level → (p : Phenomenon) → finding_of p report ≡ Walk walk → IsClosedWalk h walk
  of_all j G0 is = (subst (FindsWalk (IsG0 h)) is j.0).0
  of_all j G1a is = absurd (subst (FindsFault h AbortedRead) is j.1)
  of_all j G1b is = absurd (subst (FindsFault h IntermediateRead) is j.2)
  of_all j G1c is = (subst (FindsWalk (IsG1c h)) is j.3).0
  of_all j GSingle is = (subst (FindsWalk (IsGSingle h)) is j.4).0
  of_all j G2Item is = (subst (FindsWalk (IsG2Item h)) is j.5).0
  of_all j G2 is = (subst (FindsWalk (IsG2 h)) is j.6).0

  -- where the only faults are reads of what was never committed
  of_reads : JudgesReads h report.phenomena report.level → (p : Phenomenon) → finding_of p report ≡ Walk walk → IsClosedWalk h walk
  of_reads j G0 is = (subst (FindsWalk (IsG0 h)) is j.0).0
  of_reads j G1a is = absurd (subst (FindsFault h AbortedRead) is j.1)
  of_reads j G1b is = absurd (subst (FindsFault h IntermediateRead) is j.2)
  of_reads j G1c is = absurd (not_both (finding_of G1c report) walk is j.3)
  of_reads j GSingle is = absurd (not_both (finding_of GSingle report) walk is j.4)
  of_reads j G2Item is = absurd (not_both (finding_of G2Item report) walk is j.5)
  of_reads j G2 is = absurd (not_both (finding_of G2 report) walk is j.6)

  -- where nothing is
  of_nothing : JudgesNothing report.phenomena report.level → (p : Phenomenon) → finding_of p report ≡ Walk walk → ⊥
  of_nothing j G0 is = not_both (finding_of G0 report) walk is j.0
  of_nothing j G1a is = not_both (finding_of G1a report) walk is j.1
  of_nothing j G1b is = not_both (finding_of G1b report) walk is j.2
  of_nothing j G1c is = not_both (finding_of G1c report) walk is j.3
  of_nothing j GSingle is = not_both (finding_of GSingle report) walk is j.4
  of_nothing j G2Item is = not_both (finding_of G2Item report) walk is j.5
  of_nothing j G2 is = not_both (finding_of G2 report) walk is j.6

  -- no row is at fault where a later kind of fault is the first
  none_before : (f : LocalFault) → IsFirst h f → 1 < kind_place f → (row : Row) → Stands h (InstallOrder row) → ⊥
  none_before f first later row stands = first.1 (InstallOrder row) stands (inl later)

  of_sound : IsSound h → IsClosedWalk h walk → IsFound h walk
  of_sound sound closed = record { closed = closed; installed = λ row stands. sound (InstallOrder row) stands }

  -- and a read of what was never committed is of a later kind
  is_later : (place : ℕ) → nat_le 7 place ≡ true → 1 < place
  is_later place t = grind arith

  of_fault : (f : LocalFault) → IsFirst h f → JudgesAtFault h f report.phenomena report.level → (p : Phenomenon) → finding_of p report ≡ Walk walk → IsFound h walk
  of_fault f first j p is = at (is_uncommitted_read f) refl j
    where
      at : (b : Bool) → is_uncommitted_read f ≡ b → JudgesAtRead b h report.phenomena report.level → IsFound h walk
      at true read j = record { closed = of_reads j p is; installed = none_before f first (is_later (kind_place f) (sym (reads_last f) ∙ read)) }
      at false other j = absurd (of_nothing j p is)

  of_finding : (s : Serial) → IsSerialVerdict h s → RestsOnOrder h s → Judges h s report.phenomena report.level → (p : Phenomenon) → finding_of p report ≡ Walk walk → IsFound h walk
  of_finding (serial.Yes order) verdict rests j p is = of_sound rests.0 (of_all j p is)
  of_finding (serial.NoCycle other) verdict rests j p is = of_sound verdict.0 (of_all j p is)
  of_finding (serial.NoFault fault) verdict rests j p is = of_fault fault verdict j p is

  -- whatever is asked for
  pub is_found : IsExactJudgement h report → (asked : Option Phenomenon) → NamesWalk report asked walk → IsFound h walk
  is_found exact None is = let verdict = subst (IsSerialVerdict h) is exact.judgement.serial in of_sound verdict.0 verdict.1
  is_found exact (Some p) is = of_finding report.serial exact.judgement.serial exact.order exact.judgement.found p is

  -- a G0 is one of writes alone
  writes_all : JudgesAll h report.phenomena report.level → finding_of G0 report ≡ Walk walk → IsG0 h walk
  writes_all j is = subst (FindsWalk (IsG0 h)) is j.0

  writes_fault : (b : Bool) → JudgesAtRead b h report.phenomena report.level → finding_of G0 report ≡ Walk walk → IsG0 h walk
  writes_fault true j is = subst (FindsWalk (IsG0 h)) is j.0
  writes_fault false j is = absurd (of_nothing j G0 is)

  writes_beside : (s : Serial) → Judges h s report.phenomena report.level → finding_of G0 report ≡ Walk walk → IsG0 h walk
  writes_beside (serial.Yes order) j is = writes_all j is
  writes_beside (serial.NoCycle other) j is = writes_all j is
  writes_beside (serial.NoFault fault) j is = writes_fault (is_uncommitted_read fault) j is

  pub is_g0 : IsExactJudgement h report → NamesWalk report (Some G0) walk → IsG0 h walk
  is_g0 exact is = writes_beside report.serial exact.judgement.found is
