-- Members that are put in any order stand in the order of their keys.
use Rattle.std.proofs.Common.{◌≡◌, ℕ, zero, suc, List, [], ◌∷◌, length, Option, Some, None, refl, sym, ap, subst, ◌∙◌}
use Rattle.std.specs.Prelude.{⊤}
use Rattle.std.specs.Ordering.{nat_cmp}
use Rattle.std.specs.Cmp.Lexicographic.{slice_cmp}
use Rattle.std.specs.declared.cmp.Ordering.TheVariants.{Less, Equal, Greater}
use Rattle.serde_json.specs.Data.{Data, Members, no_members, member, put}
use Rattle.lab_history_file.specs.Slots.{slot, slots, filled, IsBefore, IsKeyAt, IsSlot}

-- a key comes before the first of some members
abbrev Before : List ℕ → Members → Type 0
Before key no_members = ⊤
Before key (member other e ms) = slice_cmp nat_cmp key other ≡ Less

before_slots : (key : List ℕ) (keys : List (List ℕ)) (found : List (Option Data)) → IsBefore key keys → Before key (slots keys found)
before_slots key [] found h = tt
before_slots key (other ∷ keys) [] h = tt
before_slots key (other ∷ keys) (None ∷ found) h = before_slots key keys found h.1
before_slots key (other ∷ keys) (Some e ∷ found) h = h.0

put_first : (key : List ℕ) (d : Data) (rest : Members) → Before key rest → put key d rest ≡ member key d rest
put_first key d no_members h = refl
put_first key d (member other e ms) h = rw h refl

-- a member is put where it is found, in place of an earlier one,
put_here : (key : List ℕ) (d : Data) (o : Option Data) (rest : Members) → slice_cmp nat_cmp key key ≡ Equal → Before key rest → put key d (slot key o rest) ≡ member key d rest
put_here key d None rest same h = put_first key d rest h
put_here key d (Some e) rest same h = rw same refl

-- or after a key that comes earlier
put_later : (key other : List ℕ) (d : Data) (o : Option Data) (rest : Members) → slice_cmp nat_cmp key other ≡ Greater → put key d (slot other o rest) ≡ slot other o (put key d rest)
put_later key other d None rest h = refl
put_later key other d (Some e) rest h = rw h refl

put_at_key : (key other : List ℕ) (d : Data) (o : Option Data) (rest : Members) → key ≡ other → slice_cmp nat_cmp key key ≡ Equal → Before key rest → put key d (slot other o rest) ≡ slot other (Some d) rest
put_at_key key other d o rest is same h = ap (λ k. put key d (slot k o rest)) (sym is) ∙ put_here key d o rest same h ∙ ap (λ k. member k d rest) is

pub put_filled : (key : List ℕ) (keys : List (List ℕ)) (n : ℕ) (d : Data) (found : List (Option Data)) → length found ≡ length keys → IsKeyAt key keys n → put key d (slots keys found) ≡ slots keys (filled n d found)
put_filled key [] n d found many h = absurd h
put_filled key (other ∷ keys) n d [] many h = absurd cc
put_filled key (other ∷ keys) zero d (o ∷ found) many h = put_at_key key other d o (slots keys found) h.0 h.1 (before_slots key keys found h.2)
put_filled key (other ∷ keys) (suc n) d (o ∷ found) many h =
    put_later key other d o (slots keys found) h.0 ∙ ap (slot other o) (put_filled key keys n d found (suc_same many) h.1)
  where
    suc_same : suc (length found) ≡ suc (length keys) → length found ≡ length keys
    suc_same e = cc

-- a slot is full where a field has a value
pub slot_full : {X : Type 0} (Is : Data → X → Type 0) (o : Option Data) (field : Option X) (x : X) → IsSlot Is o field → field ≡ Some x → (d : Data) × (o ≡ Some d) × Is d x
slot_full Is None None x s e = absurd cc
slot_full Is None (Some y) x s e = absurd s
slot_full Is (Some d) None x s e = absurd s
slot_full Is (Some d) (Some y) x s e = (d, refl, let same : y ≡ x = cc in subst (Is d) same s)
