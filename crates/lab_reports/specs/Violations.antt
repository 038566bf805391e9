-- What `--phenomenon` names: a phenomenon, or that a history isn't a snapshot run.
use Rattle.std.specs.Prelude.{ℕ, Option, List, [], ◌∷◌, codes, find}
use Rattle.std.specs.Str.{bytes_eq}
use Rattle.lab_reports.specs.Phenomena.{phenomenon_name}
use Rattle.lab_reports.specs.declared.phenomenon.Phenomenon.TheVariants.{G0, G1a, G1b, G1c, GSingle, G2Item, G2}
use Rattle.lab_reports.specs.declared.violation.Violation.{Violation}
use Rattle.lab_reports.specs.declared.violation.Violation.TheVariants.{Phenomenon, Snapshot}

-- all of them: the phenomena in the order of a report's lines, and that the history isn't a snapshot run
abbrev pub violations : List Violation
violations = Phenomenon G0 ∷ Phenomenon G1a ∷ Phenomenon G1b ∷ Phenomenon G1c ∷ Phenomenon GSingle ∷ Phenomenon G2Item ∷ Phenomenon G2 ∷ Snapshot ∷ []

-- the name of a violation: a phenomenon's as a report prints it
abbrev pub violation_name : Violation → List ℕ
violation_name (Phenomenon p) = phenomenon_name p
violation_name Snapshot = codes "SI"

-- the first of some violations that has this name
abbrev pub first_violation : List ℕ → List Violation → Option Violation
first_violation name among = find (λ v. bytes_eq (violation_name v) name) among

-- the violation of a name, if there is one
abbrev pub violation_named : List ℕ → Option Violation
violation_named name = first_violation name violations
