-- Whole numbers of a file.
use Rattle.std.specs.Prelude.{ℕ, ◌&&◌, nat_le, Option, Some, None, option_and_then, if◌then◌else◌}
use Rattle.serde_json.specs.Data.{Data}
use Rattle.serde_json.specs.Find.{as_number, as_u64}

-- a whole number from low to high
abbrev pub whole_in : ℕ → ℕ → Data → Option ℕ
whole_in low high d = option_and_then (λ n. if nat_le low n && nat_le n high then Some n else None) (option_and_then as_u64 (as_number d))
