-- Lists of keys with values.
use Rattle.std.specs.Prelude.{Option, List}
use Rattle.std.specs.Map.{lookup}
use Rattle.std.specs.Ordering.{is_eq}
use Rattle.std.specs.declared.cmp.Ordering.{Ordering}

-- the first value that a list gives a key
abbrev pub value_at : {K V : Type 0} → (K → K → Ordering) → List (K × V) → K → Option V
value_at cmp entries key = lookup (λ k. is_eq (cmp k key)) entries
