-- What the engine of each level guarantees for all of its runs, as the matrix prints it.
--
-- Origin: names of levels: Adya, Liskov and O'Neil, "Generalized Isolation Level Definitions" (2000); snapshot
-- isolation: Berenson and others, "A Critique of ANSI SQL Isolation Levels" (1995).
use Rattle.std.specs.Prelude.{ℕ, Bool, true, false, List, codes}
use Rattle.lab_engine.specs.declared.event.Level.{Level}
use Rattle.lab_engine.specs.RuleTable.{rules_of, keeps_reads, keeps_snapshots}
use Rattle.lab_judge.specs.Findings as found
use Rattle.lab_judge.specs.Promises.{IsAbsent}
use Rattle.lab_judge.specs.Verdicts.{IsYes, IsPlaced}
use Rattle.lab_judge.specs.declared.report.Report.{Report}
use Rattle.lab_matrix.specs.declared.engine_promise.Promise.{Promise}
use Rattle.lab_matrix.specs.declared.engine_promise.Promise.TheVariants.{Serializable, NoG1, SnapshotRun}

-- a report says what is promised: that the history is serializable; that G0, G1a, G1b and G1c are absent; that it is a snapshot run
abbrev pub Says : Promise → Report → Type 0
Says Serializable report = IsYes report.serial
Says NoG1 report = IsAbsent (found.g0 report.phenomena) × IsAbsent (found.g1a report.phenomena) × IsAbsent (found.g1b report.phenomena) × IsAbsent (found.g1c report.phenomena)
Says SnapshotRun report = IsPlaced report.snapshot

-- what is promised where reads and snapshots are kept, or where they aren't
abbrev pub promise_by : Bool → Bool → Promise
promise_by true snapshots = Serializable
promise_by false true = SnapshotRun
promise_by false false = NoG1

-- what the engine of each level promises
abbrev pub promise_of : Level → Promise
promise_of level = promise_by (keeps_reads (rules_of level)) (keeps_snapshots (rules_of level))

-- its name in the matrix: the level of Adya, Liskov and O'Neil that has no more, or SI, snapshot isolation
abbrev pub promise_name : Promise → List ℕ
promise_name Serializable = codes "PL-3"
promise_name NoG1 = codes "PL-2"
promise_name SnapshotRun = codes "SI"
