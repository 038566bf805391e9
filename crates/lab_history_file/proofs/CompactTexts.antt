-- The compact text of a value whose numbers, strings and keys fit is UTF-8, and is read as the value.
use Rattle.std.{proofs.{Common.{◌≡◌, ℕ, suc, ◌≤◌, ◌<◌, ◌^◌, Bool, true, false, List, [], ◌∷◌, ◌++◌, Some, option_map, option_and_then, refl, sym, ap, ◌∙◌, arith, append-nil}, lemmas.Str.{IsUtf8-append, IsUtf8-nil}}, specs.{Prelude.{pos, negsuc, codes, ⊤, IsUtf8}, List.{list_all}}}
use Rattle.json.specs.Json as json
use Rattle.json.{specs.{Lex.{tokens}, Print.{quoted}, Tree.{json_tokens, HasNumbers, ItemsHaveNumbers, MembersHaveNumbers}}, proofs.Printed.{Tokens.{tokens-print}, Trees.{value-json_tokens, ArePrintable-json_tokens}, Decimals.{IsNumber-decimal, IsNumber-signed_decimal}, Utf8.{IsUtf8-quoted, IsUtf8-boolean}}}
use Rattle.json.specs.Tree as tree
use Rattle.serde_json.{specs.{Data.{Num, unsigned, negative, float, Data, null, boolean, number, string, array, object, Items, no_items, item, Members, no_members, member, put, depth, items_depth, members_depth}, Read.{number_of, of_json, of_items, of_members, max_depth, read}, Written.{number_text, outline, items_outline, members_outline, comma_if, compact_text, items_text, members_text}}, proofs.{Numbers.{number_of-decimal, number_of-negative}, Texts.{print-outline}}}
use Rattle.lab_history_file.proofs.{ClearTexts.{is_clear, literal, decimal_clear, signed_clear}, CodeBytes.{clear_is_utf8}}

-- an integer of 64 bits
abbrev pub NumFits : Num → Type 0
NumFits (unsigned n) = n < 2 ^ 64
NumFits (negative (pos n)) = ⊥
NumFits (negative (negsuc n)) = suc n < 2 ^ 63
NumFits (float x) = ⊥

-- members that are read one after another
abbrev pub put_members : Members → Members → Members
put_members no_members found = found
put_members (member k d ms) found = put_members ms (put k d found)

-- numbers are such integers, strings and keys are UTF-8, and each key stands once and in order
abbrev mutual
  pub Fits : Data → Type 0
  Fits null = ⊤
  Fits (boolean b) = ⊤
  Fits (number n) = NumFits n
  Fits (string s) = IsUtf8 s
  Fits (array ds) = ItemsFit ds
  Fits (object ms) = MembersFit ms × (put_members ms no_members ≡ ms)

  pub ItemsFit : Items → Type 0
  ItemsFit no_items = ⊤
  ItemsFit (item d ds) = Fits d × ItemsFit ds

  pub MembersFit : Members → Type 0
  MembersFit no_members = ⊤
  MembersFit (member k d ms) = IsUtf8 k × Fits d × MembersFit ms

-- ---- it is read

number_read : (n : Num) → NumFits n → number_of (number_text n) ≡ Some n
number_read (unsigned n) h = number_of-decimal n h
number_read (negative (pos n)) h = absurd h
number_read (negative (negsuc n)) h = number_of-negative n (omega (arith, h))
number_read (float x) h = absurd h

number_is : (n : Num) → NumFits n → HasNumbers (outline (number n))
number_is (unsigned n) h = IsNumber-decimal n h
number_is (negative (pos n)) h = absurd h
number_is (negative (negsuc n)) h = IsNumber-signed_decimal (negsuc n) (omega (arith, h))
number_is (float x) h = absurd h

mutual
  value_read : (d : Data) → Fits d → of_json (outline d) ≡ Some d
  value_read null h = refl
  value_read (boolean b) h = refl
  value_read (number n) h = ap (option_map number) (number_read n h)
  value_read (string s) h = refl
  value_read (array ds) h = ap (option_map array) (items_read ds h)
  value_read (object ms) h = ap (option_map object) (members_read ms no_members h.0 ∙ ap Some h.1)

  items_read : (ds : Items) → ItemsFit ds → of_items (items_outline ds) ≡ Some ds
  items_read no_items h = refl
  items_read (item d ds) h = ap (option_and_then (λ e. option_map (item e) (of_items (items_outline ds)))) (value_read d h.0) ∙ ap (option_map (item d)) (items_read ds h.1)

  members_read : (ms found : Members) → MembersFit ms → of_members (members_outline ms) found ≡ Some (put_members ms found)
  members_read no_members found h = refl
  members_read (member k d ms) found h = ap (option_and_then (λ e. of_members (members_outline ms) (put k e found))) (value_read d h.1) ∙ members_read ms (put k d found) h.2

mutual
  numbers_are : (d : Data) → Fits d → HasNumbers (outline d)
  numbers_are null h = tt
  numbers_are (boolean b) h = tt
  numbers_are (number n) h = number_is n h
  numbers_are (string s) h = tt
  numbers_are (array ds) h = item_numbers_are ds h
  numbers_are (object ms) h = member_numbers_are ms h.0

  item_numbers_are : (ds : Items) → ItemsFit ds → ItemsHaveNumbers (items_outline ds)
  item_numbers_are no_items h = tt
  item_numbers_are (item d ds) h = (numbers_are d h.0, item_numbers_are ds h.1)

  member_numbers_are : (ms : Members) → MembersFit ms → MembersHaveNumbers (members_outline ms)
  member_numbers_are no_members h = tt
  member_numbers_are (member k d ms) h = (numbers_are d h.1, member_numbers_are ms h.2)

mutual
  as_deep : (d : Data) → tree.depth (outline d) ≤ depth d
  as_deep null = omega arith
  as_deep (boolean b) = omega arith
  as_deep (number n) = omega arith
  as_deep (string s) = omega arith
  as_deep (array ds) = omega (arith, items_as_deep ds)
  as_deep (object ms) = omega (arith, members_as_deep ms)

  items_as_deep : (ds : Items) → tree.items_depth (items_outline ds) ≤ items_depth ds
  items_as_deep no_items = omega arith
  items_as_deep (item d ds) = omega (arith, as_deep d, items_as_deep ds)

  members_as_deep : (ms : Members) → tree.members_depth (members_outline ms) ≤ members_depth ms
  members_as_deep no_members = omega arith
  members_as_deep (member k d ms) = omega (arith, as_deep d, members_as_deep ms)

pub compact_read : (d : Data) → Fits d → depth d ≤ max_depth → read (compact_text d) ≡ Some d
compact_read d h flat =
    let ts = json_tokens (outline d) in
    let same : tokens (compact_text d) ≡ ts ++ [] = ap tokens (sym (print-outline d)) ∙ tokens-print ts (ArePrintable-json_tokens (outline d) (numbers_are d h)) ∙ sym (append-nil ts) in
    ap (λ o. option_and_then of_json (option_and_then (λ p. json.if_last p.0 p.1) o)) (ap (json.value max_depth) same ∙ value-json_tokens (outline d) max_depth [] (omega (arith, as_deep d, flat))) ∙ value_read d h

-- ---- it is UTF-8

byte_then : (b : ℕ) (rest : List ℕ) → list_all is_clear (b ∷ []) ≡ true → IsUtf8 rest → IsUtf8 (b ∷ rest)
byte_then b rest clear u = IsUtf8-append (b ∷ []) rest (clear_is_utf8 (literal (b ∷ []) clear)) u

comma_then : (later : Bool) (rest : List ℕ) → IsUtf8 rest → IsUtf8 (comma_if later ++ rest)
comma_then true rest u = byte_then 44 rest refl u
comma_then false rest u = u

number_utf8 : (n : Num) → IsUtf8 (number_text n)
number_utf8 (unsigned n) = clear_is_utf8 (decimal_clear n)
number_utf8 (negative z) = clear_is_utf8 (signed_clear z)
number_utf8 (float x) = IsUtf8-nil

mutual
  pub compact_utf8 : (d : Data) → Fits d → IsUtf8 (compact_text d)
  compact_utf8 null h = clear_is_utf8 (literal (codes "null") refl)
  compact_utf8 (boolean b) h = IsUtf8-boolean b
  compact_utf8 (number n) h = number_utf8 n
  compact_utf8 (string s) h = IsUtf8-quoted s h
  compact_utf8 (array ds) h = byte_then 91 _ refl (items_utf8 false ds h)
  compact_utf8 (object ms) h = byte_then 123 _ refl (members_utf8 false ms h.0)

  items_utf8 : (later : Bool) (ds : Items) → ItemsFit ds → IsUtf8 (items_text later ds)
  items_utf8 later no_items h = byte_then 93 [] refl IsUtf8-nil
  items_utf8 later (item d ds) h = comma_then later _ (IsUtf8-append (compact_text d) _ (compact_utf8 d h.0) (items_utf8 true ds h.1))

  members_utf8 : (later : Bool) (ms : Members) → MembersFit ms → IsUtf8 (members_text later ms)
  members_utf8 later no_members h = byte_then 125 [] refl IsUtf8-nil
  members_utf8 later (member k d ms) h =
      comma_then later _ (IsUtf8-append (quoted k) _ (IsUtf8-quoted k h.0) (byte_then 58 _ refl (IsUtf8-append (compact_text d) _ (compact_utf8 d h.1) (members_utf8 true ms h.2))))
