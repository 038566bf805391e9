-- What the tokens of a list's members spell.
use Rattle.std.{proofs.Common.{◌≡◌, ◌≢◌, ℕ, ℤ, ◌≤◌, ◌≤ℤ◌, pos, negsuc, List, [], ◌∷◌, ◌++◌, Some, None, option_and_then, if◌then◌else◌, true, refl, ap, ◌∙◌, arith, le-leb, option_map, suc}, specs.Prelude.{◌&&◌, int_le}}
use Rattle.json.specs.Token.{Token}
use Rattle.serde_json.specs.{Data.{Data, null, number, string, array, unsigned}, Find.{as_i64}, Read.{number_of}, View.{items_of}}
use Rattle.lab_table.specs.{Row.{Row, in_test, numbered}, TableName.{is_table_name}}
use Rattle.lab_history.{specs.declared.operation.{State.{TheVariants.{Absent, Present}}, VersionName.{TheVariants.{Of}}}, proofs.Steps.{both_some}}
use Rattle.lab_history_file.specs.{Entries.{txn_in_number, value_in, state_in}, FileOf.{IsListOf, IsPair, IsValue, IsVersion, IsInstalled}, Numbers.{IsWhole, IsInteger}, Reads.{WholeTo, KeyTaken, IsWritten}, Spelled.{Spells, SpellItems, Spelled}}
use Rattle.lab_history_file.specs.declared.file_version.FileVersion.{FileVersion, TheVariants.{One, Two}}
use Rattle.lab_history_file.proofs.TokensSpell.{number_spelled, string_spelled, null_spelled, deeper, no_items_more, one_item_more, list_spelled}

-- ---- parts

pub whole_spelled : (most : ℕ) (old new : List Token) (n : ℕ) → IsWhole old new n → 1 ≤ n → n ≤ most → WholeTo most old new n
whole_spelled most old new n is low high = record {
  tree = number (unsigned n);
  spells = number_spelled old new is.text (unsigned n) is.taken is.is;
  stands = rw (le-leb 1 n low, le-leb n most high) refl;
}

in_range : (z : ℤ) → negsuc 999999999 ≤ℤ z → z ≤ℤ pos 1000000000 → (if int_le (negsuc 999999999) z && int_le z (pos 1000000000) then Some z else None) ≡ Some z
in_range z low high = grind arith

pub value_spelled : (old new : List Token) (z : ℤ) → IsInteger old new z → negsuc 999999999 ≤ℤ z → z ≤ℤ pos 1000000000 → Spelled 0 IsValue old new z
value_spelled old new z is low high =
    let read = both_some (number_of is.text) as_i64 z is.is in record {
      tree = number read.0;
      spells = number_spelled old new is.text read.0 is.taken read.1;
      stands = ap (option_and_then (λ y. if int_le (negsuc 999999999) y && int_le y (pos 1000000000) then Some y else None)) read.2 ∙ in_range z low high;
    }

pub absent_spelled : (old new : List Token) → old ≡ Token.null ∷ new → Spelled 0 IsWritten old new Absent
absent_spelled old new is = record { tree = null; spells = null_spelled old new is; stands = refl }

present : (d : Data) (z : ℤ) → value_in d ≡ Some z → state_in d ≡ Some (Present z)
present null z e = absurd cc
present (Data.boolean b) z e = absurd cc
present (number n) z e = ap (option_map Present) e
present (string s) z e = absurd cc
present (array ds) z e = absurd cc
present (Data.object ms) z e = absurd cc

pub present_spelled : (old new : List Token) (z : ℤ) → Spelled 0 IsValue old new z → Spelled 0 IsWritten old new (Present z)
present_spelled old new z s = record { tree = s.tree; spells = s.spells; stands = present s.tree z s.stands }

-- ---- keys

pub id_key : (old new : List Token) (id : ℕ) → WholeTo 999999 old new id → KeyTaken One old new (in_test id)
id_key old new id s = (
  s.tree ∷ [],
  (s.tree, refl, refl, s.stands),
  λ levels end more rest. one_item_more levels old new end s.tree more (deeper 0 levels old new s.tree (omega arith) s.spells) rest,
)

pub full_key : (old middle new : List Token) (table : List ℕ) (id : ℕ) → old ≡ Token.string table ∷ middle → is_table_name table ≡ true → WholeTo 999999 middle new id → KeyTaken Two old new (numbered table id)
full_key old middle new table id is named s = (
  string table ∷ s.tree ∷ [],
  (s.tree, refl, named, s.stands),
  λ levels end more rest.
      one_item_more levels old middle end (string table) (s.tree ∷ more) (deeper 0 levels old middle (string table) (omega arith) (string_spelled old middle table is))
      (one_item_more levels middle new end s.tree more (deeper 0 levels middle new s.tree (omega arith) s.spells) rest),
)

-- ---- members

module _ (version : FileVersion) (row : Row) (old inside middle : List Token) (opens : old ≡ Token.begin_array ∷ inside) (key : KeyTaken version inside middle row) where
  member_listed : (last new : List Token) (ds : List Data) (levels : ℕ) → SpellItems levels middle new ds → Spells (suc levels) old new (array (items_of (key.0 ++ ds)))
  member_listed last new ds levels s = list_spelled levels old inside new (key.0 ++ ds) opens (key.2 levels new ds s)

  pub pair_spelled : {X : Type 0} (Is : Data → X → Type 0) (levels : ℕ) (last new : List Token) (x : X) → levels ≤ 1 → Spelled levels Is middle last x → last ≡ Token.end_array ∷ new
      → Spelled 2 (IsPair version Is) old new (row, x)
  pair_spelled Is levels last new x few s ends = record {
    tree = array (items_of (key.0 ++ s.tree ∷ []));
    spells = member_listed last new (s.tree ∷ []) 1 (one_item_more 1 middle last new s.tree [] (deeper levels 1 middle last s.tree few s.spells) (no_items_more 1 last new ends));
    stands = (s.tree, (key.0, key.1, refl), s.stands);
  }

  pub version_spelled : (between last new : List Token) (txn op : ℕ) → WholeTo 1000000 middle between txn → WholeTo 10000 between last op → last ≡ Token.end_array ∷ new
      → Spelled 2 (IsVersion version) old new (row, Of txn op)
  version_spelled between last new txn op t o ends = record {
    tree = array (items_of (key.0 ++ t.tree ∷ o.tree ∷ []));
    spells = member_listed last new (t.tree ∷ o.tree ∷ []) 1
        (one_item_more 1 middle between new t.tree (o.tree ∷ []) (deeper 0 1 middle between t.tree (omega arith) t.spells)
        (one_item_more 1 between last new o.tree [] (deeper 0 1 between last o.tree (omega arith) o.spells) (no_items_more 1 last new ends)));
    stands = (t.tree, o.tree, txn, op, (key.0, key.1, refl), t.stands, o.stands, refl);
  }

  pub installed_spelled : (last new : List Token) (ns : List ℕ) → Spelled 1 (IsListOf (λ number txn. txn_in_number number ≡ Some txn)) middle last ns → ns ≢ [] → last ≡ Token.end_array ∷ new
      → Spelled 2 (IsInstalled version) old new (row, ns)
  installed_spelled last new ns s some ends =
      let pair = pair_spelled (IsListOf (λ number txn. txn_in_number number ≡ Some txn)) 1 last new ns (omega arith) s ends in
      record { tree = pair.tree; spells = pair.spells; stands = (pair.stands, some) }
