-- A value from which a history is read is a file of it.
use Rattle.std.proofs.Common.{◌≡◌, Ok, subst}
use Rattle.serde_json.specs.Data.{Data}
use Rattle.lab_history_file.{specs.{FileOf.{IsFileOf}, Format.{parts_in, history_in}}, proofs.{PartsRead.{parts_read}, ReadKeeps.{read_keeps}}}
use Rattle.lab_history.{specs.{History.{History}, WithinLimits.{within_limits}}, proofs.Steps.{both_ok}}

file_of_parts : (d : Data) (h : History) → parts_in d ≡ Ok h → within_limits h ≡ Ok tt → IsFileOf d h
file_of_parts d h e within = let found = parts_read d h e in (found.0, record { holds = found.1; keeps = read_keeps d h e within })

pub read_is_file : (d : Data) (h : History) → history_in d ≡ Ok h → IsFileOf d h
read_is_file d h e =
    let parts = both_ok (parts_in d) _ h e in
    let within = both_ok (within_limits parts.0) _ h parts.2 in
    let same : parts.0 ≡ h = cc in
    subst (IsFileOf d) same (file_of_parts d parts.0 parts.1 within.1)
