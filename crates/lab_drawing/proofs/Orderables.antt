-- Nodes can be ordered exactly if they have places along which every arrow points forward, and never if they have a ring.
use Rattle.std.proofs.{Common.{◌≡◌, ◌⊎◌, inl, inr, ℕ, zero, suc, ◌+◌, ◌<◌, ◌≤◌, ◌==◌, Bool, true, false, cond, List, [], ◌∷◌, length, refl, sym, ap, ◌∙◌, subst, arith}, lemmas.{Bool.{false≢true, true≢false, eqb-true, eq-eqb}, List.{Elements.{Contains-append_cases}, Folds.{Any-from_list_any, list_any-from_Any}}}}
use Rattle.std.specs.{Prelude.{Contains, filter}, List.{list_any}}
use Rattle.lab_order.specs.Trails.{IsTrailBy, IsRing}
use Rattle.lab_table.proofs.Members.{no_member, first_member, later_member, only_member}
use Rattle.lab_drawing.specs.Orderable.{below, are_none, is_led_to, led_to, left_after, is_orderable, HasPlaces}

-- ---- filters

-- what a filter keeps was there, and passes
pub passed : {X : Type 0} (test : X → Bool) (xs : List X) (x : X) → Contains (filter test xs) x → Contains xs x × (test x ≡ true)
passed test [] x there = absurd (no_member x there)
passed test (y ∷ xs) x there =
    elim (test y) as (λ b. test y ≡ b → Contains (cond b (y ∷ filter test xs) (filter test xs)) x → Contains (y ∷ xs) x × (test x ≡ true)) [
      | true ↦ λ is kept.
          elim (Contains-append_cases (y ∷ []) (filter test xs) x kept) [
            | inl here ↦
                let same : y ≡ x = only_member y x here in
                subst (λ z. Contains (y ∷ xs) z × (test z ≡ true)) same (first_member y xs, is)
            | inr later ↦
                let rest : Contains xs x × (test x ≡ true) = passed test xs x later in
                (later_member y xs x rest.0, rest.1)
          ]
      | false ↦ λ _ kept.
          let rest : Contains xs x × (test x ≡ true) = passed test xs x kept in
          (later_member y xs x rest.0, rest.1)
    ] refl there

-- and what passes is kept
pub kept : {X : Type 0} (test : X → Bool) (xs : List X) (x : X) → Contains xs x → test x ≡ true → Contains (filter test xs) x
kept test [] x there is = absurd (no_member x there)
kept test (y ∷ xs) x there is =
    elim (Contains-append_cases (y ∷ []) xs x there) [
      | inl here ↦
          let same : y ≡ x = only_member y x here in
          subst (λ z. Contains (cond (test z) (z ∷ filter test xs) (filter test xs)) x) (sym same)
          (subst (λ b. Contains (cond b (x ∷ filter test xs) (filter test xs)) x) (sym is) (first_member x (filter test xs)))
      | inr later ↦
          let rest : Contains (filter test xs) x = kept test xs x later is in
          elim (test y) as (λ b. Contains (cond b (y ∷ filter test xs) (filter test xs)) x) [ true ↦ later_member y (filter test xs) x rest | false ↦ rest ]
    ]

-- it keeps no more than there was, and less if something fails
not_more : {X : Type 0} (test : X → Bool) (xs : List X) → length (filter test xs) ≤ length xs
not_more test [] = omega arith
not_more test (y ∷ xs) = elim (test y) as (λ b. length (cond b (y ∷ filter test xs) (filter test xs)) ≤ length (y ∷ xs)) [
  | true ↦ omega (arith, not_more test xs)
  | false ↦ omega (arith, not_more test xs)
]

less : {X : Type 0} (test : X → Bool) (xs : List X) (x : X) → Contains xs x → test x ≡ false → length (filter test xs) < length xs
less test [] x there is = absurd (no_member x there)
less test (y ∷ xs) x there is =
    elim (Contains-append_cases (y ∷ []) xs x there) [
      | inl here ↦
          let fails : test y ≡ false = ap test (only_member y x here) ∙ is in
          subst (λ b. length (cond b (y ∷ filter test xs) (filter test xs)) < length (y ∷ xs)) (sym fails) (omega (arith, not_more test xs))
      | inr later ↦
          let rest : length (filter test xs) < length xs = less test xs x later is in
          elim (test y) as (λ b. length (cond b (y ∷ filter test xs) (filter test xs)) < length (y ∷ xs)) [ true ↦ omega (arith, rest) | false ↦ omega (arith, rest) ]
    ]

-- a test that some member passes, and one that none does
pub some_passes : {X : Type 0} (test : X → Bool) (xs : List X) (x : X) → Contains xs x → test x ≡ true → list_any test xs ≡ true
some_passes test xs x (k, l, e) is = list_any-from_Any test xs (k, x, l, e, is)

none_passes : {X : Type 0} (test : X → Bool) (xs : List X) → ((x : X) → Contains xs x → test x ≡ true → ⊥) → list_any test xs ≡ false
none_passes test xs none =
    elim (list_any test xs) as (λ b. list_any test xs ≡ b → b ≡ false) [
      | true ↦ λ is. let found = Any-from_list_any test xs is in absurd (none found.1 (found.0, found.2, found.3) found.4)
      | false ↦ λ _. refl
    ] refl

-- two numbers stand one way or the other
before : (a b : ℕ) → (a ≤ b) ⊎ (b ≤ a)
before zero b = inl (omega arith)
before (suc a) zero = inr (omega arith)
before (suc a) (suc b) = elim (before a b) [ inl low ↦ inl (omega (arith, low)) | inr high ↦ inr (omega (arith, high)) ]

-- ---- the nodes below a number

below_is : (count a : ℕ) → Contains (below count) a → a < count
below_is zero a there = absurd (no_member a there)
below_is (suc n) a there = elim (Contains-append_cases (n ∷ []) (below n) a there) [
  | inl here ↦ let same : n ≡ a = only_member n a here in omega (arith, same)
  | inr later ↦ let rest : a < n = below_is n a later in omega (arith, rest)
]

is_below : (count a : ℕ) → a < count → Contains (below count) a
is_below zero a lt = absurd (omega (arith, lt))
is_below (suc n) a lt =
    elim (n == a) as (λ b. (n == a) ≡ b → Contains (n ∷ below n) a) [
      | true ↦ λ is. subst (Contains (n ∷ below n)) (eqb-true n a is) (first_member n (below n))
      | false ↦ λ isnt. later_member n (below n) a (is_below n a (under n a lt (λ same. true≢false (sym (eq-eqb n a same) ∙ isnt))))
    ] refl
  where
    under : (n a : ℕ) → a < suc n → (n ≡ a → ⊥) → a < n
    under n a lt other = omega (arith, lt, other)

length_below : (count : ℕ) → length (below count) ≡ count
length_below zero = refl
length_below (suc n) = ap suc (length_below n)

module _ (leads : ℕ → ℕ → Bool) where
  none_left : (rounds : ℕ) → left_after rounds leads [] ≡ []
  none_left zero = refl
  none_left (suc k) = none_left k

  -- ---- places make an order

  module _ (place : ℕ → ℕ) where
    -- the arrows between some nodes point forward
    abbrev AreForward : List ℕ → Type 0
    AreForward nodes = (a b : ℕ) → Contains nodes a → Contains nodes b → leads a b ≡ true → place a < place b

    -- a node with the least place
    least : (n : ℕ) (ns : List ℕ) → (m : ℕ) × Contains (n ∷ ns) m × ((x : ℕ) → Contains (n ∷ ns) x → place m ≤ place x)
    least n [] = (n, first_member n [], λ x there. let same : place n ≡ place x = ap place (only_member n x there) in omega (arith, same))
    least n (k ∷ ns) =
        let rest = least k ns in
        let m = rest.0 in
        elim (before (place n) (place m)) [
          | inl low ↦ (
            n,
            first_member n (k ∷ ns),
            λ x there. elim (Contains-append_cases (n ∷ []) (k ∷ ns) x there) [
              | inl here ↦ let same : place n ≡ place x = ap place (only_member n x here) in omega (arith, same)
              | inr later ↦ let high : place m ≤ place x = rest.2 x later in omega (arith, low, high)
            ],
          )
          | inr high ↦ (
            m,
            later_member n (k ∷ ns) m rest.1,
            λ x there. elim (Contains-append_cases (n ∷ []) (k ∷ ns) x there) [
              | inl here ↦ let same : place n ≡ place x = ap place (only_member n x here) in omega (arith, same, high)
              | inr later ↦ rest.2 x later
            ],
          )
        ]

    -- it goes in the next round
    fewer : (n : ℕ) (ns : List ℕ) → AreForward (n ∷ ns) → length (led_to leads (n ∷ ns)) < length (n ∷ ns)
    fewer n ns forward =
        let l = least n ns in
        less (is_led_to leads (n ∷ ns)) (n ∷ ns) l.0 l.1
        (none_passes (λ a. leads a l.0) (n ∷ ns) (λ a there leads_on.
        let lt : place a < place l.0 = forward a l.0 there l.1 leads_on in
        let le : place l.0 ≤ place a = l.2 a there in
        omega (arith, lt, le)))

    still : (nodes : List ℕ) → AreForward nodes → AreForward (led_to leads nodes)
    still nodes forward a b x y = forward a b (passed (is_led_to leads nodes) nodes a x).0 (passed (is_led_to leads nodes) nodes b y).0

    all_gone : (rounds : ℕ) (nodes : List ℕ) → length nodes ≤ rounds → AreForward nodes → left_after rounds leads nodes ≡ []
    all_gone rounds [] few forward = none_left rounds
    all_gone zero (n ∷ ns) few forward = absurd (omega (arith, few))
    all_gone (suc k) (n ∷ ns) few forward =
        let lt : length (led_to leads (n ∷ ns)) < length (n ∷ ns) = fewer n ns forward in
        all_gone k (led_to leads (n ∷ ns)) (omega (arith, few, lt)) (still (n ∷ ns) forward)

  pub orders : (count : ℕ) → HasPlaces leads count → is_orderable leads count ≡ true
  orders count (place, forward) =
      let few : length (below count) ≤ count = omega (arith, length_below count) in
      ap are_none (all_gone place count (below count) few (λ a b x y on. forward a b (below_is count a x) (below_is count b y) on))

  -- ---- an order makes places

  -- in how many rounds an arrow leads to a node
  abbrev rank : ℕ → List ℕ → ℕ → ℕ
  rank zero nodes n = 0
  rank (suc rounds) nodes n = cond (is_led_to leads nodes n) 1 0 + rank rounds (led_to leads nodes) n

  unled : (rounds : ℕ) (nodes : List ℕ) (n : ℕ) → ((a : ℕ) → Contains nodes a → leads a n ≡ true → ⊥) → rank rounds nodes n ≡ 0
  unled zero nodes n none = refl
  unled (suc k) nodes n none =
      let not_led : is_led_to leads nodes n ≡ false = none_passes (λ a. leads a n) nodes none in
      let rest : rank k (led_to leads nodes) n ≡ 0 = unled k (led_to leads nodes) n (λ a there. none a (passed (is_led_to leads nodes) nodes a there).0) in
      ap (λ b. cond b 1 0 + rank k (led_to leads nodes) n) not_led ∙ omega (arith, rest)

  rises : (rounds : ℕ) (nodes : List ℕ) → left_after rounds leads nodes ≡ [] → (a b : ℕ) → Contains nodes a → Contains nodes b → leads a b ≡ true → rank rounds nodes a < rank rounds nodes b
  rises zero nodes none a b x y on = absurd (no_member a (subst (λ ns. Contains ns a) none x))
  rises (suc k) nodes none a b x y on =
      let b_led : is_led_to leads nodes b ≡ true = some_passes (λ c. leads c b) nodes a x on in
      let b_stays : Contains (led_to leads nodes) b = kept (is_led_to leads nodes) nodes b y b_led in
      subst (λ t. cond (is_led_to leads nodes a) 1 0 + rank k (led_to leads nodes) a < cond t 1 0 + rank k (led_to leads nodes) b) (sym b_led)
      (
      elim (is_led_to leads nodes a) as (λ t. is_led_to leads nodes a ≡ t → cond t 1 0 + rank k (led_to leads nodes) a < 1 + rank k (led_to leads nodes) b) [
        | true ↦ λ a_led.
            let lt : rank k (led_to leads nodes) a < rank k (led_to leads nodes) b = rises k (led_to leads nodes) none a b (kept (is_led_to leads nodes) nodes a x a_led) b_stays on in
            omega (arith, lt)
        | false ↦ λ a_free.
            let zero_is : rank k (led_to leads nodes) a ≡ 0 =
            unled k (led_to leads nodes) a (λ c there leads_on. true≢false (sym (some_passes (λ d. leads d a) nodes c (passed (is_led_to leads nodes) nodes c there).0 leads_on) ∙ a_free)) in
            omega (arith, zero_is)
      ] refl)

  pub places : (count : ℕ) → is_orderable leads count ≡ true → HasPlaces leads count
  places count is = (rank count (below count), λ a b x y on. rises count (below count) (empty (left_after count leads (below count)) is) a b (is_below count a x) (is_below count b y) on)
    where
      empty : (ns : List ℕ) → are_none ns ≡ true → ns ≡ []
      empty [] is = refl
      empty (n ∷ ns) is = absurd (false≢true is)

  -- ---- a ring leaves no order

  -- each of some nodes has one of them before it
  abbrev AreLed : List ℕ → Type 0
  AreLed ring = (b : ℕ) → Contains ring b → (a : ℕ) × Contains ring a × (leads a b ≡ true)

  survive : (ring : List ℕ) → AreLed ring → (rounds : ℕ) (nodes : List ℕ) → ((b : ℕ) → Contains ring b → Contains nodes b) → (b : ℕ) → Contains ring b → Contains (left_after rounds leads nodes) b
  survive ring led zero nodes within b there = within b there
  survive ring led (suc k) nodes within b there =
      survive ring led k (led_to leads nodes)
      (λ c in_ring.
      let before = led c in_ring in
      kept (is_led_to leads nodes) nodes c (within c in_ring) (some_passes (λ a. leads a c) nodes before.0 (within before.0 before.1) before.2))
      b there

  -- along a trail each node but the first has one before it
  led_along : (from : ℕ) (xs : List ℕ) (to b : ℕ) → IsTrailBy (λ x y. leads x y ≡ true) from xs to → (Contains xs b) ⊎ (to ≡ b) → (a : ℕ) × Contains (from ∷ xs) a × (leads a b ≡ true)
  led_along from [] to b trail (inl there) = absurd (no_member b there)
  led_along from [] to b trail (inr same) = (from, first_member from [], subst (λ y. leads from y ≡ true) same trail)
  led_along from (x ∷ xs) to b trail which = elim (first_or_later x xs to b which) [
    | inl same ↦ (from, first_member from (x ∷ xs), subst (λ y. leads from y ≡ true) same trail.0)
    | inr rest ↦ let found = led_along x xs to b trail.1 rest in (found.0, later_member from (x ∷ xs) found.0 found.1, found.2)
  ]
    where
      first_or_later : (x : ℕ) (xs : List ℕ) (to b : ℕ) → (Contains (x ∷ xs) b) ⊎ (to ≡ b) → (x ≡ b) ⊎ ((Contains xs b) ⊎ (to ≡ b))
      first_or_later x xs to b (inr same) = inr (inr same)
      first_or_later x xs to b (inl there) = elim (Contains-append_cases (x ∷ []) xs b there) [ inl here ↦ inl (only_member x b here) | inr later ↦ inr (inl later) ]

  ring_led : (x : ℕ) (xs : List ℕ) → IsTrailBy (λ x y. leads x y ≡ true) x xs x → AreLed (x ∷ xs)
  ring_led x xs trail b there = led_along x xs x b trail (elim (Contains-append_cases (x ∷ []) xs b there) [ inl here ↦ inr (only_member x b here) | inr later ↦ inl later ])

  pub ring_remains : (count : ℕ) (ring : List ℕ) → IsRing (λ x y. leads x y ≡ true) ring → ((b : ℕ) → Contains ring b → b < count) → is_orderable leads count ≡ false
  ring_remains count [] ring within = absurd ring
  ring_remains count (x ∷ xs) ring within =
      some_left (left_after count leads (below count))
      (survive (x ∷ xs) (ring_led x xs ring) count (below count) (λ b there. is_below count b (within b there)) x (first_member x xs))
    where
      some_left : (ns : List ℕ) → Contains ns x → are_none ns ≡ false
      some_left [] there = absurd (no_member x there)
      some_left (n ∷ ns) there = refl
