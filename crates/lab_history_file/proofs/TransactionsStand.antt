-- Transactions that each may stand behind those before it: their numbers are distinct, and their operations few enough.
use Rattle.std.{proofs.{Common.{◌≡◌, ℕ, ◌+◌, ◌≤◌, ◌==◌, false, List, [], ◌∷◌, ◌++◌, length, refl, sym, ap, subst, ◌∙◌, arith, append_assoc, append-nil, length-append}, lemmas.{Bool.{or_parts, or_from}, Grind.{flat_map-append}}}, specs.List.{list_any}}
use Rattle.lab_history.{specs.{HistoryRules.{AllDistinct, operations}, declared.transaction.Txn.{Txn}}, proofs.Standing.{numbers, unlike, operations_push}}
use Rattle.lab_history_file.specs.Behind.{AllStand, Stands}

-- a number at the end that none of those before it has
none_pushed : (m : ℕ) (ts : List Txn) (txn : Txn) → list_any (λ k. k == m) (numbers ts) ≡ false → (txn.no == m) ≡ false → list_any (λ k. k == m) (numbers (ts ++ txn ∷ [])) ≡ false
none_pushed m [] txn e f = or_from _ _ f refl
none_pushed m (t ∷ ts) txn e f = let parts = or_parts (t.no == m) _ e in or_from _ _ parts.0 (none_pushed m ts txn parts.1 f)

distinct_pushed : (before : List Txn) (txn : Txn) → AllDistinct (numbers before) → list_any (λ t. t.no == txn.no) before ≡ false → AllDistinct (numbers (before ++ txn ∷ []))
distinct_pushed [] txn all alone = (refl, tt)
distinct_pushed (t ∷ ts) txn all alone =
    let parts = or_parts (t.no == txn.no) _ alone in
    (none_pushed t.no ts txn all.0 (unlike _ _ parts.0), distinct_pushed ts txn all.1 parts.1)

-- where each may stand, all numbers are distinct and all operations few enough
pub standing : (before txns : List Txn) → AllStand Stands before txns → AllDistinct (numbers before) → length (operations before) ≤ 10000
    → AllDistinct (numbers (before ++ txns)) × (length (operations (before ++ txns)) ≤ 10000)
standing before [] all distinct few = subst (λ ts. AllDistinct (numbers ts) × (length (operations ts) ≤ 10000)) (sym (append-nil before)) (distinct, few)
standing before (txn ∷ txns) all distinct few =
    let room = all.0.room in
    let total = operations_push before txn in
    subst (λ ts. AllDistinct (numbers ts) × (length (operations ts) ≤ 10000)) (append_assoc before (txn ∷ []) txns)
    (standing (before ++ txn ∷ []) txns all.1 (distinct_pushed before txn distinct all.0.alone) (omega (arith, room, total)))

-- a number that none of some has, another of these does not have
differs : (m : ℕ) (us : List Txn) (txn : Txn) (txns : List Txn) → list_any (λ k. k == m) (numbers (us ++ txn ∷ txns)) ≡ false → (txn.no == m) ≡ false
differs m [] txn txns e = (or_parts _ _ e).0
differs m (u ∷ us) txn txns e = differs m us txn txns (or_parts (u.no == m) _ e).1

-- a number that comes once is none of those before it
alone_in : (before : List Txn) (txn : Txn) (txns : List Txn) → AllDistinct (numbers (before ++ txn ∷ txns)) → list_any (λ t. t.no == txn.no) before ≡ false
alone_in [] txn txns all = refl
alone_in (t ∷ ts) txn txns all = or_from _ _ (unlike _ _ (differs t.no ts txn txns all.0)) (alone_in ts txn txns all.1)

-- where all numbers are distinct and all operations few enough, each may stand
pub stand : (before txns : List Txn) → AllDistinct (numbers (before ++ txns)) → length (operations (before ++ txns)) ≤ 10000 → AllStand Stands before txns
stand before [] distinct few = tt
stand before (txn ∷ txns) distinct few =
    let regroup = append_assoc before (txn ∷ []) txns in
    let total : length (operations (before ++ txn ∷ txns)) ≡ length (operations before) + length (operations (txn ∷ txns)) =
    ap length (flat_map-append (λ (t : Txn). t.ops) before (txn ∷ txns)) ∙ length-append (operations before) _ in
    let own : length (operations (txn ∷ txns)) ≡ length txn.ops + length (operations txns) = length-append txn.ops _ in (
      record { alone = alone_in before txn txns distinct; room = omega (arith, few, total, own) },
      stand (before ++ txn ∷ []) txns (subst (λ ts. AllDistinct (numbers ts)) (sym regroup) distinct) (subst (λ ts. length (operations ts) ≤ 10000) (sym regroup) few),
    )
