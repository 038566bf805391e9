-- What is found along a row's versions is what is found by the listing of the row, and without it.
use Rattle.std.proofs.{Common.{◌≡◌, ◌⊎◌, ℕ, zero, suc, ◌+◌, ◌-◌, Bool, Option, Some, None, List, [], ◌∷◌, ◌++◌, refl, sym, subst, arith, inl, inr}, lemmas.{List.Elements.{Contains-append_left, Contains-append_right, Contains-append_cases}, Option.{none-some, same_Some}}}
use Rattle.std.specs.Prelude.{Contains, slice_get}
use Rattle.lab_table.{specs.{Statement.{matches}, declared.statement.Statement.{Statement}}, proofs.Members.{no_member}}
use Rattle.lab_deps.specs.{Edges.{differ}, Collected.{apart_in, item_edge}, EdgesByRow.{Chain, HasMembersOf, edges_by, walk, walked, unlisted}, Turns.{item_in, items_of}}
use Rattle.lab_deps.specs.declared.{edge.{Edge.{Edge}}, reading.Reading.{Reading}, versions.Version.{Version}}
use Rattle.lab_deps.proofs.{Neighbours.{in_apart_in}, Readings.{item_cases}, SameMembers.{both_members, joined_members, members_through, same_members}}

-- two parts of each of two lists change places
exchanged : (a i b c : List Edge) (e : Edge) → Contains ((a ++ i) ++ (b ++ c)) e → Contains ((a ++ b) ++ (i ++ c)) e
exchanged a i b c e has =
    elim (Contains-append_cases (a ++ i) (b ++ c) e has) [
      | inl ones ↦ elim (Contains-append_cases a i e ones) [
        | inl first ↦ Contains-append_left (a ++ b) (i ++ c) e (Contains-append_left a b e first)
        | inr second ↦ Contains-append_right (a ++ b) (i ++ c) e (Contains-append_left i c e second)
      ]
      | inr twos ↦ elim (Contains-append_cases b c e twos) [
        | inl first ↦ Contains-append_left (a ++ b) (i ++ c) e (Contains-append_right a b e first)
        | inr second ↦ Contains-append_right (a ++ b) (i ++ c) e (Contains-append_right i c e second)
      ]
    ]

module _ (r : Reading) where
  abbrev item : ℕ → ℕ → List Edge
  item p n = apart_in (item_edge r p n)

  -- with what versions a reader has to do by listing the row
  item_places : (p n : ℕ) (e : Edge) → Contains (item p n) e → (p ≡ r.place - 1) ⊎ (p ≡ r.place)
  item_places p n e h =
      elim (item_cases r p n e (in_apart_in (item_edge r p n) e h).0) [
        | inl (_, at, _) ↦ inl (omega (arith, at))
        | inr (_, at, _) ↦ inr (sym at)
      ]

  -- what is found by the listing of each version
  abbrev listed_along : ℕ → List Version → List Edge
  listed_along p [] = []
  listed_along p (v ∷ vs) = item p v.installer ++ listed_along (p + 1) vs

  listed_at : (p : ℕ) (vs : List Version) (e : Edge) → Contains (listed_along p vs) e → (q : ℕ) × (v : Version) × (slice_get vs q ≡ Some v) × Contains (item (p + q) v.installer) e
  listed_at p [] e has = absurd (no_member e has)
  listed_at p (v ∷ vs) e has =
      elim (Contains-append_cases (item p v.installer) (listed_along (p + 1) vs) e has) [
        | inl now ↦ let here : p ≡ p + 0 = omega arith in (0, v, refl, subst (λ k. Contains (item k v.installer) e) here now)
        | inr later ↦
            let m = listed_at (p + 1) vs e later in
            let on : (p + 1) + m.0 ≡ p + suc m.0 = omega arith in
            (suc m.0, m.1, m.2, subst (λ k. Contains (item k m.1.installer) e) on m.3)
      ]

  at_listed : (p : ℕ) (vs : List Version) (q : ℕ) (u : Version) (e : Edge) → slice_get vs q ≡ Some u → Contains (item (p + q) u.installer) e → Contains (listed_along p vs) e
  at_listed p [] q u e there has = absurd (none-some u there)
  at_listed p (v ∷ vs) zero u e there has =
      let here : p + 0 ≡ p = omega arith in
      Contains-append_left (item p v.installer) (listed_along (p + 1) vs) e
      (subst (λ k. Contains (item k v.installer) e) here (subst (λ (x : Version). Contains (item (p + 0) x.installer) e) (sym (same_Some v u there)) has))
  at_listed p (v ∷ vs) (suc q) u e there has =
      let on : p + suc q ≡ (p + 1) + q = omega arith in
      Contains-append_right (item p v.installer) (listed_along (p + 1) vs) e (at_listed (p + 1) vs q u e there (subst (λ k. Contains (item k u.installer) e) on has))

  module _ (vs : List Version) (e : Edge) where
    item_listed : (q : ℕ) (o : Option Version) → slice_get vs q ≡ o → Contains (item_in r q o) e → Contains (listed_along 0 vs) e
    item_listed q None there has = absurd (no_member e has)
    item_listed q (Some v) there has = let here : q ≡ 0 + q = omega arith in at_listed 0 vs q v e there (subst (λ k. Contains (item k v.installer) e) here has)

    items_listed : Contains (items_of r vs) e → Contains (listed_along 0 vs) e
    items_listed has =
        elim (Contains-append_cases (item_in r (r.place - 1) (slice_get vs (r.place - 1))) (item_in r r.place (slice_get vs r.place)) e has) [
          | inl seen ↦ item_listed (r.place - 1) (slice_get vs (r.place - 1)) refl seen
          | inr next ↦ item_listed r.place (slice_get vs r.place) refl next
        ]

    listed_items : Contains (listed_along 0 vs) e → Contains (items_of r vs) e
    listed_items has =
        let m = listed_at 0 vs e has in
        let here : 0 + m.0 ≡ m.0 = omega arith in
        let is : Contains (item_in r m.0 (slice_get vs m.0)) e = subst (λ o. Contains (item_in r m.0 o) e) (sym m.2) (subst (λ k. Contains (item k m.1.installer) e) here m.3) in
        elim (item_places m.0 m.1.installer e (subst (λ k. Contains (item k m.1.installer) e) here m.3)) [
          | inl seen ↦ Contains-append_left (item_in r (r.place - 1) (slice_get vs (r.place - 1))) (item_in r r.place (slice_get vs r.place)) e (subst (λ q. Contains (item_in r q (slice_get vs q)) e) seen is)
          | inr next ↦ Contains-append_right (item_in r (r.place - 1) (slice_get vs (r.place - 1))) (item_in r r.place (slice_get vs r.place)) e (subst (λ q. Contains (item_in r q (slice_get vs q)) e) next is)
        ]

  module _ (s : Statement) where
    parts : (b : Bool) (p : ℕ) (vs : List Version) → HasMembersOf (listed_along p vs ++ walk s (unlisted r) b p vs) (walk s r b p vs)
    parts b p [] = same_members []
    parts b p (v ∷ vs) =
        let now : Bool = matches s r.row v.value in
        let here : List Edge = item p v.installer in
        let change : List Edge = edges_by (unlisted r) p v.installer (differ b now) in
        let items : List Edge = listed_along (p + 1) vs in
        let changes : List Edge = walk s (unlisted r) now (p + 1) vs in
        members_through ((here ++ items) ++ (change ++ changes)) ((here ++ change) ++ (items ++ changes)) ((here ++ change) ++ walk s r now (p + 1) vs)
        (λ e. (exchanged here items change changes e, exchanged here change items changes e))
        (both_members (here ++ change) (here ++ change) (items ++ changes) (walk s r now (p + 1) vs) (same_members (here ++ change)) (parts now (p + 1) vs))

    pub walked_by_parts : (c : Chain) → HasMembersOf (items_of r c.items ++ walked s (unlisted r) c) (walked s r c)
    walked_by_parts c =
        let vs = c.items in
        let changes : List Edge = walked s (unlisted r) c in
        members_through (items_of r vs ++ changes) (listed_along 0 vs ++ changes) (walked s r c)
        (joined_members (items_of r vs) (listed_along 0 vs) changes (λ e. (items_listed vs e, listed_items vs e))) (parts (matches s r.row c.before) 0 vs)
