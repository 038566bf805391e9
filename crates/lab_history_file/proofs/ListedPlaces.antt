-- What a file's lists have at their places.
use Rattle.std.{proofs.{Common.{◌≡◌, ℕ, zero, suc, ◌+◌, ◌<◌, ◌==◌, Bool, true, false, List, [], ◌∷◌, length, Option, Some, None, is_some, slice_get, refl, sym, ap, ◌∙◌, arith, eq-eqb, length-append}, lemmas.Bool.{or_parts}}, specs.{Prelude.{if◌then◌else◌}, List.{list_any}}}
use Rattle.serde_json.specs.Data.{Data, Items, no_items, item}
use Rattle.lab_history_file.{specs.{FaultOf.{all_ops}, FileOf.{AreEach, IsTransaction, outcome_text}, Format.{outcome_named}, declared.file_version.FileVersion.{FileVersion}}, proofs.FaultsOfTransactions.{read_count}}
use Rattle.lab_history.{specs.{HistoryRules.{AllDistinct, operations}, declared.transaction.{Txn.{Txn}, Outcome.{Outcome, TheVariants.{Committed, Aborted}}}}, proofs.Standing.{numbers}}

pub outcome_fits : (outcome : Outcome) → is_some (outcome_named (outcome_text outcome)) ≡ true
outcome_fits Committed = refl
outcome_fits Aborted = refl

-- a number that none of some has isn't that of one of them
none_at : (n : ℕ) (ts : List Txn) (j : ℕ) (b : Txn) → list_any (λ m. m == n) (numbers ts) ≡ false → slice_get ts j ≡ Some b → b.no ≡ n → ⊥
none_at n [] j b none e same = absurd cc
none_at n (t ∷ ts) zero b none e same =
    let here : t ≡ b = cc in
    let tested = eq-eqb t.no n (ap (λ (u : Txn). u.no) here ∙ same) in
    let other = (or_parts (t.no == n) _ none).0 in absurd cc
none_at n (t ∷ ts) (suc j) b none e same = none_at n ts j b (or_parts (t.no == n) _ none).1 e same

-- where numbers are distinct, two places have two of them
pub distinct_at : (ts : List Txn) (i j : ℕ) (a b : Txn) → AllDistinct (numbers ts) → i < j → slice_get ts i ≡ Some a → slice_get ts j ≡ Some b → a.no ≡ b.no → ⊥
distinct_at [] i j a b all below e f same = absurd cc
distinct_at (t ∷ ts) i zero a b all below e f same = absurd (omega (arith, below))
distinct_at (t ∷ ts) zero (suc j) a b all below e f same =
    let here : t ≡ a = cc in none_at t.no ts j b all.0 f (sym same ∙ ap (λ (u : Txn). u.no) (sym here))
distinct_at (t ∷ ts) (suc i) (suc j) a b all below e f same = distinct_at ts i j a b all.1 (omega (arith, below)) e f same

-- all operations that transactions list
pub each_lists : (version : FileVersion) (ds : Items) (txns : List Txn) → AreEach (IsTransaction version) ds txns → all_ops ds ≡ length (operations txns)
each_lists version no_items [] each = refl
each_lists version no_items (txn ∷ txns) each = absurd each
each_lists version (item t ds) [] each = absurd each
each_lists version (item t ds) (txn ∷ txns) each =
    let own = read_count version t txn each.0 in
    let rest = each_lists version ds txns each.1 in
    let both : length (operations (txn ∷ txns)) ≡ length txn.ops + length (operations txns) = length-append txn.ops _ in
    omega (arith, own, rest, both)

-- what is found under a condition, and that the condition holds
pub under : (b : Bool) (r : Option Data) (v : Data) → (if b then r else None) ≡ Some v → (b ≡ true) × (r ≡ Some v)
under true r v e = (refl, e)
under false r v e = absurd cc
