-- A history whose file would be too long isn't put in.
use Rattle.std.{proofs.{Common.{◌≡◌, ◌<◌, ℕ, List, length, arith}, lemmas.Bool.{cond-false, lt-leb}}, specs.Prelude.{nat_le}}
use Rattle.lab_history.specs.Limits.{max_file_bytes}
use Rattle.lab_overview.specs.Check.{file_text, no_file, shown_file}

pub long_file : (file : List ℕ) → max_file_bytes < length file → shown_file file ≡ no_file
long_file file long =
    let more : 65536 < length file = omega arith in
    cond-false (nat_le (length file) 65536) (file_text file) no_file (lt-leb (length file) 65536 more)
