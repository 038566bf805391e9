-- The members of an object, read in any order.
use Rattle.std.proofs.Common.{◌≡◌, ℕ, suc, ◌<◌, List, [], ◌∷◌, ◌++◌, length, refl, sym, ap, subst, arith, append_assoc, append-nil}
use Rattle.json.specs.Token.{Token}
use Rattle.serde_json.specs.Data.{Data, Members, no_members, put}
use Rattle.lab_history_file.specs.{Gathered.{TakesMember, TakesObject}, Spelled.{Spells, SpellMembers, put_all, PassesMembers}}
use Rattle.lab_history_file.proofs.TokensSpell.{shorter, one_member_more, no_members_more, object_spelled}

put_more : (before : List (List ℕ × Data)) (key : List ℕ) (d : Data) (found : Members) → put_all (before ++ (key, d) ∷ []) found ≡ put key d (put_all before found)
put_more [] key d found = refl
put_more (m ∷ ms) key d found = put_more ms key d (put m.0 m.1 found)

passes_one_more : (levels : ℕ) (old middle inside new : List Token) (before : List (List ℕ × Data)) (key : List ℕ) (d : Data)
    → PassesMembers levels old middle before → middle ≡ Token.key key ∷ inside → Spells levels inside new d → PassesMembers levels old new (before ++ (key, d) ∷ [])
passes_one_more levels old middle inside new before key d passes is s end more rest =
    subst (SpellMembers levels old end) (sym (append_assoc before ((key, d) ∷ []) more))
    (passes end ((key, d) ∷ more) (one_member_more levels middle inside new end key d more is s rest))

-- a key is named
pub key_named : {F : Type 0} (levels : ℕ) (Hold : Members → F → Type 0) (old new : List Token) (before after : F) (key name : List ℕ) → key ≡ name → TakesMember levels Hold name old new before after → TakesMember levels Hold key old new before after
key_named levels Hold old new before after key name is t = subst (λ k. TakesMember levels Hold k old new before after) (sym is) t

-- an object whose members have been read as far as `now`
pub record Gathering {F : Type 0} (levels : ℕ) (Hold : Members → F → Type 0) (old now : List Token) (before fields : F) : Type 0 where
  pub inside : List Token
  pub opens : old ≡ Token.begin_object ∷ inside
  pub members : List (List ℕ × Data)
  pub passes : PassesMembers levels inside now members
  pub hold : Hold no_members before → Hold (put_all members no_members) fields

module _ {F : Type 0} (levels : ℕ) (Hold : Members → F → Type 0) where
  pub gathering_begins : (old inside : List Token) (fields : F) → old ≡ Token.begin_object ∷ inside → Gathering levels Hold old inside fields fields
  gathering_begins old inside fields opens = record { inside = inside; opens = opens; members = []; passes = λ end more s. s; hold = λ h. h }

  pub gathering_goes_on : (old now inside new : List Token) (key : List ℕ) (before fields after : F) → Gathering levels Hold old now before fields → now ≡ Token.key key ∷ inside → TakesMember levels Hold key inside new fields after
      → Gathering levels Hold old new before after
  gathering_goes_on old now inside new key before fields after g is t = record {
    inside = g.inside;
    opens = g.opens;
    members = g.members ++ (key, t.0) ∷ [];
    passes = passes_one_more levels g.inside now inside new g.members key t.0 g.passes is t.1;
    hold = λ h. subst (λ ms. Hold ms after) (sym (put_more g.members key t.0 no_members)) (t.2 (put_all g.members no_members) (g.hold h));
  }

  pub member_shortens : (now inside new : List Token) (key : List ℕ) (before after : F) → now ≡ Token.key key ∷ inside → TakesMember levels Hold key inside new before after → length new < length now
  member_shortens now inside new key before after is t =
      let less = shorter levels inside new t.0 t.1 in
      let size : length now ≡ suc (length inside) = ap length is in
      omega (arith, less, size)

  pub gathering_ends : (old now new : List Token) (before fields : F) → Gathering levels Hold old now before fields → now ≡ Token.end_object ∷ new → TakesObject levels Hold old new before fields
  gathering_ends old now new before fields g ends =
      let inside = subst (SpellMembers levels g.inside new) (append-nil g.members) (g.passes new [] (no_members_more levels now new ends)) in
      (put_all g.members no_members, object_spelled levels old g.inside new g.members g.opens inside, g.hold)
