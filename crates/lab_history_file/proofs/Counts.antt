-- How many members a list of a file has.
use Rattle.std.proofs.{Common.{◌≡◌, ℕ, ◌+◌, ◌<◌, ◌≤◌, nat_lt, true, false, List, [], ◌∷◌, length, refl, arith}, lemmas.Bool.{lt-ltb, le-ltb}}
use Rattle.serde_json.specs.{declared.value.Value.{Value}, View.{items_view}}
use Rattle.lab_history_file.specs.Member.{count}

-- they are counted as in code
pub items_count : (values : List Value) → count (items_view values) ≡ length values
items_count [] = refl
items_count (v ∷ vs) = omega (arith, items_count vs)

-- operations before and these are too many
pub too_many : (before : ℕ) (values : List Value) → 10000 < before + length values → nat_lt 10000 (before + count (items_view values)) ≡ true
too_many before values more = rw (items_count values) (lt-ltb 10000 (before + length values) more)

-- and are not
pub few_enough : (before : ℕ) (values : List Value) → before + length values ≤ 10000 → nat_lt 10000 (before + count (items_view values)) ≡ false
few_enough before values few = rw (items_count values) (le-ltb 10000 (before + length values) few)
