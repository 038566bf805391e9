-- What tokens spell, value by value.
use Rattle.std.{proofs.Common.{◌≡◌, ℕ, suc, ◌-◌, ◌<◌, ◌≤◌, List, [], ◌∷◌, ◌++◌, length, Option, Some, None, option_map, option_and_then, refl, sym, ap, subst, ◌∙◌, arith, append-nil, append_assoc}, specs.{Prelude.{IsUtf8}}}
use Rattle.json.{specs.{Token.{Token}, Lex.{tokens}, Json.{Json, Parse, parse_map, after_end_array, read_key, items, members, value, if_last}}, proofs.Grammar.{left, value_is, value-begin_array, value-begin_object, items_end, items_more, members_end, members_more, skip_value-shorter}}
use Rattle.json.specs.Json as json
use Rattle.serde_json.specs.{Data.{put, Num, Data, null, number, string, array, object, item, no_members}, Read.{number_of, of_json, of_items, of_members}, View.{items_of}}
use Rattle.lab_history_file.specs.{FileOf.{AreEach, IsListOf}, FileRead.{IsTextOf}, Spelled.{Spells, SpellItems, SpellMembers, put_all, Spelled, Passes, PassesEach}}

-- ---- values that are one token

pub number_spelled : (old new : List Token) (text : List ℕ) (n : Num) → old ≡ Token.number text ∷ new → number_of text ≡ Some n → Spells 0 old new (number n)
number_spelled old new text n is e = record {
  json = json.number text;
  taken = λ depth _. ap (value depth) is ∙ value_is depth (Token.number text ∷ new);
  is = ap (option_map number) e;
}

pub string_spelled : (old new : List Token) (text : List ℕ) → old ≡ Token.string text ∷ new → Spells 0 old new (string text)
string_spelled old new text is = record {
  json = json.string text;
  taken = λ depth _. ap (value depth) is ∙ value_is depth (Token.string text ∷ new);
  is = refl;
}

pub null_spelled : (old new : List Token) → old ≡ Token.null ∷ new → Spells 0 old new null
null_spelled old new is = record { json = json.null; taken = λ depth _. ap (value depth) is ∙ value_is depth (Token.null ∷ new); is = refl }

-- more levels are enough too
pub deeper : (levels more : ℕ) (old new : List Token) (d : Data) → levels ≤ more → Spells levels old new d → Spells more old new d
deeper levels more old new d below s = record { json = s.json; taken = λ depth enough. s.taken depth (omega (arith, below, enough)); is = s.is }

-- ---- lists

begins_none : (o : Option (List Token)) (ts : List Token) (p : Json × List Token) (v : Option (Json × List Token)) → v ≡ Some p → v ≡ None → o ≡ None
begins_none o ts p v is none = absurd (let never : None ≡ Some p = sym none ∙ is in cc)

-- no list ends where a value begins
begins_value : (depth : ℕ) (ts : List Token) (p : Json × List Token) → value depth ts ≡ Some p → after_end_array ts ≡ None
begins_value depth [] p e = refl
begins_value depth (Token.begin_object ∷ ts) p e = refl
begins_value depth (Token.end_object ∷ ts) p e = refl
begins_value depth (Token.begin_array ∷ ts) p e = refl
begins_value depth (Token.end_array ∷ ts) p e = begins_none (Some ts) ts p _ e (value_is depth (Token.end_array ∷ ts))
begins_value depth (Token.key s ∷ ts) p e = refl
begins_value depth (Token.string s ∷ ts) p e = refl
begins_value depth (Token.number s ∷ ts) p e = refl
begins_value depth (Token.boolean b ∷ ts) p e = refl
begins_value depth (Token.null ∷ ts) p e = refl
begins_value depth (Token.bad ∷ ts) p e = refl

-- a value takes tokens
pub shorter : (levels : ℕ) (old new : List Token) (d : Data) → Spells levels old new d → length new < length old
shorter levels old new d s = skip_value-shorter levels old new (ap left (s.taken levels (omega arith)))

-- a list ends
pub no_items_more : (levels : ℕ) (old new : List Token) → old ≡ Token.end_array ∷ new → SpellItems levels old new []
no_items_more levels old new ends = record {
  json = json.no_items;
  taken = λ depth turns enough many. items_end (value depth) turns old new many (ap after_end_array ends);
  is = refl;
}

-- an item stands in front of others
pub one_item_more : (levels : ℕ) (old new end : List Token) (d : Data) (ds : List Data) → Spells levels old new d → SpellItems levels new end ds → SpellItems levels old end (d ∷ ds)
one_item_more levels old new end d ds s rest = record {
  json = json.item s.json rest.json;
  taken = λ depth turns enough many.
      let less = shorter levels old new d s in
      items_more (value depth) turns old new s.json (omega (arith, less, many)) (begins_value depth old _ (s.taken depth enough)) (s.taken depth enough)
      ∙ ap (parse_map (json.item s.json)) (rest.taken depth (turns - 1) enough (omega (arith, less, many)));
  is = ap (option_and_then (λ e. option_map (item e) (of_items rest.json))) s.is ∙ ap (option_map (item d)) rest.is;
}

-- the items of a list make it
pub list_spelled : (levels : ℕ) (old inside new : List Token) (ds : List Data) → old ≡ Token.begin_array ∷ inside → SpellItems levels inside new ds → Spells (suc levels) old new (array (items_of ds))
list_spelled levels old inside new ds is s = record {
  json = json.array s.json;
  taken = λ depth enough.
      ap (value depth) is ∙ value-begin_array depth inside (omega (arith, enough))
      ∙ ap (parse_map json.array) (s.taken (depth - 1) (length inside) (omega (arith, enough)) (omega arith));
  is = ap (option_map array) s.is;
}

-- ---- a list's items one after another

pub passes_none : (ts : List Token) → Passes ts ts []
passes_none ts levels end more s = s

pub passes_more : (old middle new : List Token) (before : List Data) (d : Data) → Passes old middle before → Spells 0 middle new d → Passes old new (before ++ d ∷ [])
passes_more old middle new before d before_passes s levels end more rest =
    subst (SpellItems levels old end) (sym (append_assoc before (d ∷ []) more))
    (before_passes levels end (d ∷ more) (one_item_more levels middle new end d more (deeper 0 levels middle new d (omega arith) s) rest))

module _ {X : Type 0} (levels : ℕ) (Is : Data → X → Type 0) where
  pub each_none : (ts : List Token) → PassesEach levels Is ts ts []
  each_none ts = ([], tt, λ end more s. s)

  each_appended : (ds : List Data) (xs : List X) (d : Data) (x : X) → AreEach Is (items_of ds) xs → Is d x → AreEach Is (items_of (ds ++ d ∷ [])) (xs ++ x ∷ [])
  each_appended [] [] d x all is = (is, tt)
  each_appended [] (y ∷ ys) d x all is = absurd all
  each_appended (e ∷ es) [] d x all is = absurd all
  each_appended (e ∷ es) (y ∷ ys) d x all is = (all.0, each_appended es ys d x all.1 is)

  pub each_more : (old middle new : List Token) (xs : List X) (x : X) → PassesEach levels Is old middle xs → Spelled levels Is middle new x → PassesEach levels Is old new (xs ++ x ∷ [])
  each_more old middle new xs x before s =
      let d = s.tree in (
        before.0 ++ d ∷ [],
        each_appended before.0 xs d x before.1 s.stands,
        λ end more rest. subst (SpellItems levels old end) (sym (append_assoc before.0 (d ∷ []) more)) (before.2 end (d ∷ more) (one_item_more levels middle new end d more s.spells rest)),
      )

  pub each_smaller : (old new : List Token) (x : X) → Spelled levels Is old new x → length new < length old
  each_smaller old new x s = shorter levels old new s.tree s.spells

  pub each_listed : (old inside last new : List Token) (xs : List X) → old ≡ Token.begin_array ∷ inside → PassesEach levels Is inside last xs → last ≡ Token.end_array ∷ new → Spelled (suc levels) (IsListOf Is) old new xs
  each_listed old inside last new xs is all ends =
      let whole = subst (SpellItems levels inside new) (append-nil all.0) (all.2 new [] (no_items_more levels last new ends)) in
      record { tree = array (items_of all.0); spells = list_spelled levels old inside new all.0 is whole; stands = (items_of all.0, refl, all.1) }

-- ---- objects

pub no_members_more : (levels : ℕ) (old new : List Token) → old ≡ Token.end_object ∷ new → SpellMembers levels old new []
no_members_more levels old new is = record {
  json = json.no_members;
  taken = λ depth turns enough many. members_end (value depth) turns old new many (ap read_key is);
  is = λ found. refl;
}

pub one_member_more : (levels : ℕ) (old inside new end : List Token) (key : List ℕ) (d : Data) (ms : List (List ℕ × Data))
    → old ≡ Token.key key ∷ inside → Spells levels inside new d → SpellMembers levels new end ms → SpellMembers levels old end ((key, d) ∷ ms)
one_member_more levels old inside new end key d ms is s rest = record {
  json = json.member key s.json rest.json;
  taken = λ depth turns enough many.
      let less = shorter levels inside new d s in
      let size : length old ≡ suc (length inside) = ap length is in
      members_more (value depth) turns key old inside new s.json (omega (arith, less, many, size)) (ap read_key is) (s.taken depth enough)
      ∙ ap (parse_map (json.member key s.json)) (rest.taken depth (turns - 1) enough (omega (arith, less, many, size)));
  is = λ found. ap (option_and_then (λ e. of_members rest.json (put key e found))) s.is ∙ rest.is (put key d found);
}

pub object_spelled : (levels : ℕ) (old inside new : List Token) (ms : List (List ℕ × Data)) → old ≡ Token.begin_object ∷ inside → SpellMembers levels inside new ms
    → Spells (suc levels) old new (object (put_all ms no_members))
object_spelled levels old inside new ms is s = record {
  json = json.object s.json;
  taken = λ depth enough.
      ap (value depth) is ∙ value-begin_object depth inside (omega (arith, enough))
      ∙ ap (parse_map json.object) (s.taken (depth - 1) (length inside) (omega (arith, enough)) (omega arith));
  is = ap (option_map object) (s.is no_members);
}

-- ---- the whole

pub text_spelled : (bytes : List ℕ) (end : List Token) (d : Data) (levels : ℕ) → levels ≤ 127 → IsUtf8 bytes → Spells levels (tokens bytes) end d → end ≡ [] → IsTextOf bytes d
text_spelled bytes end d levels few utf8 s over =
    let whole = s.taken 127 few ∙ ap (λ ts. Some (s.json, ts)) over in
    (utf8, ap (λ o. option_and_then of_json (option_and_then (λ p. if_last p.0 p.1) o)) whole ∙ s.is)
