-- A name gives back the violation that has it.
use Rattle.std.proofs.Common.{◌≡◌, Some, refl}
use Rattle.lab_reports.specs.Violations.{violation_name, violation_named}
use Rattle.lab_reports.specs.declared.phenomenon.Phenomenon.TheVariants.{G0, G1a, G1b, G1c, GSingle, G2Item, G2}
use Rattle.lab_reports.specs.declared.violation.Violation.{Violation}
use Rattle.lab_reports.specs.declared.violation.Violation.TheVariants.{Phenomenon, Snapshot}

pub named_back : (v : Violation) → violation_named (violation_name v) ≡ Some v
named_back (Phenomenon G0) = refl
named_back (Phenomenon G1a) = refl
named_back (Phenomenon G1b) = refl
named_back (Phenomenon G1c) = refl
named_back (Phenomenon GSingle) = refl
named_back (Phenomenon G2Item) = refl
named_back (Phenomenon G2) = refl
named_back Snapshot = refl
