-- The phenomena in the order of a report's lines, with their names.
--
-- Origin: names: Adya, Liskov and O'Neil, "Generalized Isolation Level Definitions" (2000).
use Rattle.std.specs.Prelude.{ℕ, Option, List, [], ◌∷◌, codes, find}
use Rattle.std.specs.Str.{bytes_eq}
use Rattle.lab_judge.specs.Findings as found
use Rattle.lab_judge.specs.declared.report.Finding.{Finding}
use Rattle.lab_judge.specs.declared.report.Report.{Report}
use Rattle.lab_reports.specs.declared.phenomenon.Phenomenon.{Phenomenon}
use Rattle.lab_reports.specs.declared.phenomenon.Phenomenon.TheVariants.{G0, G1a, G1b, G1c, GSingle, G2Item, G2}

-- all of them, in the order of a report's lines
abbrev pub phenomena : List Phenomenon
phenomena = G0 ∷ G1a ∷ G1b ∷ G1c ∷ GSingle ∷ G2Item ∷ G2 ∷ []

-- the name of a phenomenon, as a report prints it
abbrev pub phenomenon_name : Phenomenon → List ℕ
phenomenon_name G0 = codes "G0"
phenomenon_name G1a = codes "G1a"
phenomenon_name G1b = codes "G1b"
phenomenon_name G1c = codes "G1c"
phenomenon_name GSingle = codes "G-single"
phenomenon_name G2Item = codes "G2-item"
phenomenon_name G2 = codes "G2"

-- what a report finds of it
abbrev pub finding_of : Phenomenon → Report → Finding
finding_of G0 report = found.g0 report.phenomena
finding_of G1a report = found.g1a report.phenomena
finding_of G1b report = found.g1b report.phenomena
finding_of G1c report = found.g1c report.phenomena
finding_of GSingle report = found.g_single report.phenomena
finding_of G2Item report = found.g2_item report.phenomena
finding_of G2 report = found.g2 report.phenomena

-- the first of some phenomena that has this name
abbrev pub first_named : List ℕ → List Phenomenon → Option Phenomenon
first_named name among = find (λ p. bytes_eq (phenomenon_name p) name) among

-- the phenomenon of a name, if there is one
abbrev pub named : List ℕ → Option Phenomenon
named name = first_named name phenomena
