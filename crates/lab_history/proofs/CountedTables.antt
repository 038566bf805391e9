-- Tables that were met one by one are as many as there are different ones, and a fifth ends the walk.
use Rattle.std.proofs.Common.{◌≡◌, ℕ, ◌+◌, ◌≤◌, ◌<◌, ◌⊎◌, inl, inr, map, Bool, true, false, cond, ◌||◌, List, [], ◌∷◌, ◌++◌, length, suc, Option, Some, None, refl, sym, ap, subst, ◌∙◌, arith, one-add}
use Rattle.std.specs.{Prelude.{nat_le, nat_lt, is_some, option_and_then, option_map, if◌then◌else◌}, List.{list_all, AllByRecursion, IsDistinct, flat_map}, Set.{distinct_count, unique_keys}, Cmp.Lexicographic.{nat_list_eq_equiv, bytes_decides}, FinMap.{entries, keys}}
use Rattle.std.proofs.lemmas.{Bool.{ltb-true, ltb-false, le-leb, lt-leb, or_parts, and_parts}, List.{length-append, map-append, Folds.{list_any-append}}, Map.Made.{length-from_keys}, Grind.{flat_map-append}}
use Rattle.std.proofs.Math.Bool.{or_assoc, or-false}
use Rattle.lab_table.specs.{TableName.{table_name_eq}, TableSet.{is_among, with_name}, Row.{Row, of_table}, Placed.{is_of}}
use Rattle.lab_history.specs.History.{History}
use Rattle.lab_history.specs.declared.{operation.{Op.{Op}, State.{State}}, transaction.Txn.{Txn}}
use Rattle.lab_history.specs.VersionName.{new_states}
use Rattle.lab_history.specs.HistoryRules.{operations, op_rows, tables_of, op_tables, named_tables, distinct_tables}
use Rattle.lab_history.specs.RunningTables.{with_table, tables_within, rows_within, op_within, ops_within, txns_within, all_within}

abbrev Names : Type 0
Names = List (List ℕ)

abbrev is_met : List ℕ → Names → Bool
is_met name met = is_among met name

-- ---- all of them, however many

abbrev all_added : Names → Names → Names
all_added met [] = met
all_added met (name ∷ names) = all_added (with_name met name) names

-- a name that is none of them stays apart from them behind them
apart_behind : (x name : List ℕ) (met : Names) → AllByRecursion (λ y. table_name_eq x y ≡ false) met → table_name_eq x name ≡ false → AllByRecursion (λ y. table_name_eq x y ≡ false) (met ++ name ∷ [])
apart_behind x name [] all off = (off, tt)
apart_behind x name (y ∷ met) all off = (all.0, apart_behind x name met all.1 off)

distinct_behind : (name : List ℕ) (met : Names) → IsDistinct table_name_eq met → is_met name met ≡ false → IsDistinct table_name_eq (met ++ name ∷ [])
unfolding IsDistinct
distinct_behind name [] apart off = (tt, tt)
distinct_behind name (x ∷ met) apart off =
    let parts : (table_name_eq name x ≡ false) × (is_met name met ≡ false) = or_parts (table_name_eq name x) (is_met name met) off in
    (apart_behind x name met apart.0 (nat_list_eq_equiv.symm x name ∙ parts.0), distinct_behind name met apart.1 parts.1)

added_distinct : (met : Names) (name : List ℕ) → IsDistinct table_name_eq met → IsDistinct table_name_eq (with_name met name)
added_distinct met name apart =
    elim (is_met name met) as (λ b. is_met name met ≡ b → IsDistinct table_name_eq (cond b met (met ++ name ∷ []))) [
      | true ↦ λ is. apart
      | false ↦ λ off. distinct_behind name met apart off
    ] refl

all_distinct : (met names : Names) → IsDistinct table_name_eq met → IsDistinct table_name_eq (all_added met names)
all_distinct met [] apart = apart
all_distinct met (name ∷ names) apart = all_distinct (with_name met name) names (added_distinct met name apart)

-- ---- what they are

any_one : (q : List ℕ) (met : Names) (name : List ℕ) → is_met q (with_name met name) ≡ (is_met q met || table_name_eq q name)
any_one q met name =
    elim (is_met name met) as (λ b. is_met name met ≡ b → is_met q (cond b met (met ++ name ∷ [])) ≡ (is_met q met || table_name_eq q name)) [
      | true ↦ λ is. known is
      | false ↦ λ off. list_any-append (table_name_eq q) met (name ∷ []) ∙ ap (λ b. is_met q met || b) (or-false (table_name_eq q name))
    ] refl
  where
    known : is_met name met ≡ true → is_met q met ≡ (is_met q met || table_name_eq q name)
    known is =
        elim (table_name_eq q name) as (λ b. table_name_eq q name ≡ b → is_met q met ≡ (is_met q met || b)) [
          | true ↦ λ same.
              let there : is_met q met ≡ true = ap (λ n. is_met n met) ((bytes_decides q name).0 same) ∙ is in
              there ∙ sym (ap (λ b. b || true) there)
          | false ↦ λ other. sym (or-false (is_met q met))
        ] refl

any_added : (q : List ℕ) (met names : Names) → is_met q (all_added met names) ≡ (is_met q met || is_met q names)
any_added q met [] = sym (or-false (is_met q met))
any_added q met (name ∷ names) =
    any_added q (with_name met name) names ∙ ap (λ b. b || is_met q names) (any_one q met name) ∙ or_assoc (is_met q met) (table_name_eq q name) (is_met q names)

distinct_as : (names : Names) → distinct_count table_name_eq names ≡ distinct_tables names
distinct_as [] = refl
distinct_as (name ∷ names) = by (is_met name names) (distinct_as names)
  where
    by : (b : Bool) → distinct_count table_name_eq names ≡ distinct_tables names
        → length (cond b (unique_keys table_name_eq names) (name ∷ unique_keys table_name_eq names)) ≡ cond b 0 1 + distinct_tables names
    by true h = h ∙ omega arith
    by false h = ap suc h ∙ sym (one-add (distinct_tables names))

-- the names that were met, counted
length_added : (names : Names) → length (all_added [] names) ≡ distinct_tables names
unfolding IsDistinct
length_added names = length-from_keys nat_list_eq_equiv (all_added [] names) names (all_distinct [] names tt) (λ q. any_added q [] names) ∙ distinct_as names

-- ---- where the walk ends

-- it met all tables, which are few, or there are too many
Ended : Option Names → Names → Type 0
Ended met all = ((met ≡ Some all) × (length all ≤ 4)) ⊎ ((met ≡ None) × (4 < length all))

grows_by_one : (met : Names) (name : List ℕ) → length met ≤ length (with_name met name)
grows_by_one met name =
    elim (is_met name met) as (λ b. length met ≤ length (cond b met (met ++ name ∷ []))) [
      | true ↦ omega arith
      | false ↦ omega (arith, length-append met (name ∷ []))
    ]

grows : (met names : Names) → length met ≤ length (all_added met names)
grows met [] = omega arith
grows met (name ∷ names) = omega (arith, grows_by_one met name, grows (with_name met name) names)

one_ended : (met : Names) (name : List ℕ) → length met ≤ 4 → Ended (with_table met name) (with_name met name)
unfolding Ended
one_ended met name few = known (is_met name met)
  where
    unknown : (b : Bool) → nat_lt (length met) 4 ≡ b → Ended (if b then Some (met ++ name ∷ []) else None) (met ++ name ∷ [])
    unknown true room = inl (refl, omega (arith, length-append met (name ∷ []), ltb-true (length met) 4 room))
    unknown false full = inr (refl, omega (arith, length-append met (name ∷ []), ltb-false (length met) 4 full))

    known : (b : Bool) → Ended (if b then Some met else if nat_lt (length met) 4 then Some (met ++ name ∷ []) else None) (cond b met (met ++ name ∷ []))
    known true = inl (refl, few)
    known false = unknown (nat_lt (length met) 4) refl

goes_on : (found : Option Names) (met all : Names) (rest : Names → Option Names) → Ended found met → (length met ≤ 4 → Ended (rest met) all) → length met ≤ length all → Ended (option_and_then rest found) all
unfolding Ended
goes_on found met all rest (inl (is, few)) then_all le = subst (λ (m : Option Names). Ended (option_and_then rest m) all) (sym is) (then_all few)
goes_on found met all rest (inr (is, many)) then_all le = inr (ap (option_and_then rest) is, omega (arith, many, le))

all_ended : (met names : Names) → length met ≤ 4 → Ended (tables_within met names) (all_added met names)
unfolding Ended
all_ended met [] few = inl (refl, few)
all_ended met (name ∷ names) few =
    goes_on (with_table met name) (with_name met name) (all_added (with_name met name) names) (λ more. tables_within more names) (one_ended met name few) (all_ended (with_name met name) names)
    (grows (with_name met name) names)

-- a walk meets all where there are at most four
met_if_few : (names : Names) → is_some (tables_within [] names) ≡ nat_le (distinct_tables names) 4
unfolding Ended
met_if_few names = by (all_ended [] names (omega arith))
  where
    by : Ended (tables_within [] names) (all_added [] names) → is_some (tables_within [] names) ≡ nat_le (distinct_tables names) 4
    by (inl (is, few)) = ap is_some is ∙ sym (le-leb (distinct_tables names) 4 (omega (arith, few, length_added names)))
    by (inr (is, many)) = ap is_some is ∙ sym (lt-leb (distinct_tables names) 4 (omega (arith, many, length_added names)))

-- whether there is a set shows in its names
pub seen : {A B : Type 0} (f : A → B) (found : Option A) → is_some found ≡ is_some (option_map f found)
seen f None = refl
seen f (Some x) = refl

-- ---- along the lists of a history

-- walks that go on alike
on_some : (found : Option Names) (f g : Names → Option Names) → ((more : Names) → f more ≡ g more) → option_and_then f found ≡ option_and_then g found
on_some None f g alike = refl
on_some (Some more) f g alike = alike more

then_on : (found : Option Names) (f g : Names → Option Names) → option_and_then (λ more. option_and_then g (f more)) found ≡ option_and_then g (option_and_then f found)
then_on None f g = refl
then_on (Some more) f g = refl

then_within : (met xs ys : Names) → tables_within met (xs ++ ys) ≡ option_and_then (λ more. tables_within more ys) (tables_within met xs)
then_within met [] ys = refl
then_within met (x ∷ xs) ys = on_some (with_table met x) _ _ (λ more. then_within more xs ys) ∙ then_on (with_table met x) _ _

rows_met : {X : Type 0} (met : Names) (es : List (Row × X)) → rows_within met es ≡ tables_within met (tables_of (map (λ e. e.0) es))
rows_met met [] = refl
rows_met met (e ∷ es) = on_some (with_table met e.0.table) _ _ (λ more. rows_met more es)

-- rows of a table that was met add nothing
pub one_met : {X : Type 0} (met : Names) (table : List ℕ) → is_met table met ≡ true → (es : List (Row × X)) → list_all (is_of table) es ≡ true → rows_within met es ≡ Some met
one_met met table is [] all = refl
one_met met table is (e ∷ es) all =
    let parts = and_parts (is_of table e) (list_all (is_of table) es) all in
    let first : is_met e.0.table met ≡ true = ap (λ n. is_met n met) (of_table table e.0 parts.0) ∙ is in
    ap (λ b. option_and_then (λ more. rows_within more es) (if b then Some met else if nat_lt (length met) 4 then Some (met ++ e.0.table ∷ []) else None)) first
    ∙ one_met met table is es parts.1

-- the rows of states are those of the new states
pub states_met : (met : Names) (es : List (Row × State)) → rows_within met es ≡ rows_within met (new_states es)
states_met met [] = refl
states_met met (e ∷ es) = on_some (with_table met e.0.table) _ _ (λ more. states_met more es)

-- one list behind others
list_behind : {X : Type 0} (found : Option Names) (met before : Names) (es : List (Row × X)) → found ≡ tables_within met before
    → option_and_then (λ more. rows_within more es) found ≡ tables_within met (before ++ tables_of (map (λ e. e.0) es))
list_behind found met before es is =
    ap (option_and_then (λ more. rows_within more es)) is ∙ on_some (tables_within met before) _ _ (λ more. rows_met more es)
    ∙ sym (then_within met before (tables_of (map (λ e. e.0) es)))

view_met : (met : Names) (op : Op) → option_and_then (λ more. rows_within more (entries op.view)) (with_table met op.statement.table)
    ≡ tables_within met (op.statement.table ∷ tables_of (keys op.view))
view_met met op = on_some (with_table met op.statement.table) _ _ (λ more. rows_met more (entries op.view))

op_met : (met : Names) (op : Op) → op_within met op ≡ tables_within met (op_tables op)
op_met met op =
    let name = op.statement.table in
    let view : Names = tables_of (keys op.view) in
    let rows : Names = tables_of (keys op.rows) in
    let writes : Names = tables_of (keys op.writes) in
    let listed : Option Names = option_and_then (λ more. rows_within more (entries op.view)) (with_table met name) in
    let seen : Option Names = option_and_then (λ most. rows_within most (entries op.rows)) listed in
    let two : seen ≡ tables_within met ((name ∷ view) ++ rows) = list_behind listed met (name ∷ view) (entries op.rows) (view_met met op) in
    let three : op_within met op ≡ tables_within met (((name ∷ view) ++ rows) ++ writes) = list_behind seen met ((name ∷ view) ++ rows) (entries op.writes) two in
    let joined : (view ++ rows) ++ writes ≡ tables_of (op_rows op) =
    ap (λ l. l ++ writes) (sym (map-append (λ row. row.table) (keys op.view) (keys op.rows))) ∙ sym (map-append (λ row. row.table) (keys op.view ++ keys op.rows) (keys op.writes)) in
    three ∙ ap (λ l. tables_within met (name ∷ l)) joined

ops_met : (met : Names) (ops : List Op) → ops_within met ops ≡ tables_within met (flat_map op_tables ops)
ops_met met [] = refl
ops_met met (op ∷ ops) =
    ap (option_and_then (λ more. ops_within more ops)) (op_met met op) ∙ on_some (tables_within met (op_tables op)) _ _ (λ more. ops_met more ops)
    ∙ sym (then_within met (op_tables op) (flat_map op_tables ops))

txns_met : (met : Names) (ts : List Txn) → txns_within met ts ≡ tables_within met (flat_map op_tables (operations ts))
txns_met met [] = refl
txns_met met (t ∷ ts) =
    ap (option_and_then (λ more. txns_within more ts)) (ops_met met t.ops) ∙ on_some (tables_within met (flat_map op_tables t.ops)) _ _ (λ more. txns_met more ts)
    ∙ sym (then_within met (flat_map op_tables t.ops) (flat_map op_tables (operations ts)))
    ∙ ap (tables_within met) (sym (flat_map-append op_tables t.ops (operations ts)))

all_met : (h : History) → all_within [] h ≡ tables_within [] (named_tables h)
all_met h =
    let initial = tables_of (keys h.initial) in
    let ran = flat_map op_tables (operations h.txns) in
    let installed = tables_of (keys h.installed) in
    let txns : option_and_then (λ more. txns_within more h.txns) (rows_within [] (entries h.initial)) ≡ tables_within [] (initial ++ ran) =
    ap (option_and_then (λ more. txns_within more h.txns)) (rows_met [] (entries h.initial)) ∙ on_some (tables_within [] initial) _ _ (λ more. txns_met more h.txns)
    ∙ sym (then_within [] initial ran) in
    list_behind _ [] ((initial ++ ran) ++ installed) (entries h.end_table) (list_behind _ [] (initial ++ ran) (entries h.installed) txns)

-- a history names few tables exactly where a walk meets all
pub few_if_met : (h : History) → is_some (all_within [] h) ≡ nat_le (distinct_tables (named_tables h)) 4
few_if_met h = ap is_some (all_met h) ∙ met_if_few (named_tables h)
