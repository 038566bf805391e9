-- The walk over operations: what is found up to an operation, and what more at one.
use Rattle.std.proofs.{Common.{◌≡◌, ℕ, zero, suc, ◌+◌, ◌<◌, ◌≤◌, ◌==◌, true, false, cond, Option, Some, None, List, [], ◌∷◌, ◌⊎◌, length, take, length-take-le, inl, inr, refl, sym, ap, ◌∙◌, subst, arith}, lemmas.{Bool.{false≢true, eqb-true}, Option.{none-some, same_Some, slice_get_within}}}
use Rattle.std.specs.{Prelude.{slice_get, option_map, IfSome}, Option.{option_or}}
use Rattle.lab_table.specs.Row.{Row}
use Rattle.lab_history.specs.{History.{History}, Version.{IsCommitted, find_txn, ops_of, op_at, outcome_of}, declared.{operation.Op.{Op}, transaction.{Outcome.TheVariants.{Aborted}, Txn.{Txn}}}}
use Rattle.lab_deps.specs.{Soundness.{IsCommittedOp, has_committed}, Broken.{is_broken}, FaultOrder.{place_among, ComesBefore}, FirstOf.{IsFirstOf, IsLeastRow}, Search.{limit, ComesFirst, IsSought, IsSoughtTo, IsSoughtAt}, declared.{kind.OpFault.{OpFault}, search.Found.{Found}}}
use Rattle.lab_deps.proofs.{FirstOf.{first_like}, FaultOrders.{one_txn}, Found.{committed_there}}

module _ {A : Type 0} where
  pub get_take : (xs : List A) (i j : ℕ) (x : A) → slice_get xs j ≡ Some x → j < i → slice_get (take i xs) j ≡ Some x
  get_take [] i j x g l = absurd (none-some x g)
  get_take (y ∷ xs) zero j x g l = absurd (omega arith)
  get_take (y ∷ xs) (suc i) zero x g l = g
  get_take (y ∷ xs) (suc i) (suc j) x g l = get_take xs i j x g (omega arith)

  pub taken_get : (xs : List A) (i j : ℕ) (x : A) → slice_get (take i xs) j ≡ Some x → (j < i) × (slice_get xs j ≡ Some x)
  taken_get [] zero j x g = absurd (none-some x g)
  taken_get [] (suc i) j x g = absurd (none-some x g)
  taken_get (y ∷ xs) zero j x g = absurd (none-some x g)
  taken_get (y ∷ xs) (suc i) zero x g = (omega arith, g)
  taken_get (y ∷ xs) (suc i) (suc j) x g = let rest = taken_get xs i j x g in (omega (arith, rest.0), rest.1)

-- an operation that is there has one of the numbers from one on
op_within : (ops : List Op) (k : ℕ) (op : Op) → op_at ops k ≡ Some op → (1 ≤ k) × (k ≤ length ops)
op_within ops zero op g = absurd (none-some op g)
op_within ops (suc p) op g = (omega arith, omega (arith, slice_get_within ops p op g))

-- a transaction that is there stands at one of the file's places
place_within : (ts : List Txn) (n : ℕ) (t : Txn) → find_txn ts n ≡ Some t → place_among ts n < length ts
place_within [] n t e = absurd (none-some t e)
place_within (u ∷ ts) n t e =
    elim (u.no == n) as (λ b. cond b (Some u) (find_txn ts n) ≡ Some t → cond b 0 (suc (place_among ts n)) < suc (length ts)) [
      | true ↦ λ _. omega arith
      | false ↦ λ later. let less = place_within ts n t later in omega arith
    ] e

module _ (h : History) (kinds : List (Option OpFault)) where
  abbrev place : ℕ → ℕ
  place n = place_among h.txns n

  -- what is sought at operations of a place's transaction is at operations of it
  same_txn : (n : ℕ) → IsCommitted h n → (f : Found) → IsSought h kinds f → place f.txn ≡ place n → f.txn ≡ n
  same_txn n c f s same =
      let a = committed_there h f.txn s.1.1.0 in
      let b = committed_there h n c in
      one_txn h.txns f.txn n a.0 b.0 a.1 b.1 same

  module _ (n k : ℕ) (c : IsCommitted h n) where
    -- what is sought up to one operation more is sought up to those before or at that one
    split : (f : Found) → IsSoughtTo h kinds (place n) (k + 1) f → IsSoughtTo h kinds (place n) k f ⊎ IsSoughtAt h kinds n (k + 1) f
    split f (s, inl less) = inl (s, inl less)
    split f (s, inr (at, le)) =
        let cases : (f.op ≤ k) ⊎ (f.op ≡ k + 1) = grind arith in
        elim cases [ inl earlier ↦ inl (s, inr (at, earlier)) | inr here ↦ inr (s, same_txn n c f s at, here) ]

    one_later : (f : Found) → IsSoughtTo h kinds (place n) k f → IsSoughtTo h kinds (place n) (k + 1) f
    one_later f (s, inl less) = (s, inl less)
    one_later f (s, inr (at, le)) = (s, inr (at, omega (arith, le)))

    at_last : (f : Found) → IsSoughtAt h kinds n (k + 1) f → IsSoughtTo h kinds (place n) (k + 1) f
    at_last f (s, at, number) = (s, inr (ap place at, omega (arith, number)))

    -- nothing at it comes before what is found before
    apart : (z y : Found) → IsSoughtTo h kinds (place n) k z → IsSoughtAt h kinds n (k + 1) y → ComesBefore h (y.txn, y.op, y.row) (z.txn, z.op, z.row) → ⊥
    apart z y (_, inl less) (_, at, number) (inl before) = let here = ap place at in absurd (omega (arith, here, less, before))
    apart z y (_, inr (same, le)) (_, at, number) (inl before) = let here = ap place at in absurd (omega (arith, here, same, before))
    apart z y (_, inl less) (_, at, number) (inr (alike, _)) = let here = ap place (sym at ∙ alike) in absurd (omega (arith, here, less))
    apart z y (_, inr (same, le)) (_, at, number) (inr (alike, inl before)) = absurd (omega (arith, number, le, before))
    apart z y (_, inr (same, le)) (_, at, number) (inr (alike, inr (number_too, _))) = absurd (omega (arith, number, le, number_too))

    -- among the kinds that come before what is found
    within : (l : ℕ) (f : Found) → IsSoughtAt h kinds n (k + 1) f → f.place < l → IsSoughtAt h (take l kinds) n (k + 1) f
    within l f ((kind, tested), at, number) less = ((get_take kinds l f.place (Some f.kind) kind less, tested), at, number)

    out : (l : ℕ) (f : Found) → IsSoughtAt h (take l kinds) n (k + 1) f → (f.place < l) × IsSoughtAt h kinds n (k + 1) f
    out l f ((kind, tested), at, number) = let w = taken_get kinds l f.place (Some f.kind) kind in (w.0, ((w.1, tested), at, number))

    -- what is found at it, of kinds that come before what is found so far, else that
    pub step : (found new : Option Found) → IsFirstOf (ComesFirst h) (IsSoughtTo h kinds (place n) k) found → IsFirstOf (ComesFirst h) (IsSoughtAt h (take (limit kinds found) kinds) n (k + 1)) new
        → IsFirstOf (ComesFirst h) (IsSoughtTo h kinds (place n) (k + 1)) (option_or new found)
    step None None p q = λ f s. elim (split f s) [ inl e ↦ p f e | inr here ↦ q f (within (length kinds) f here (slice_get_within kinds f.place (Some f.kind) here.0.0)) ]
    step None (Some x) p q = (
      at_last x (out (length kinds) x q.0).1,
      λ f s l. elim (split f s) [ inl e ↦ p f e | inr here ↦ q.1 f (within (length kinds) f here (slice_get_within kinds f.place (Some f.kind) here.0.0)) l ],
    )
    step (Some z) None p q = (
      one_later z p.0,
      λ f s l. elim (split f s) [
        | inl e ↦ p.1 f e l
        | inr here ↦ elim l [ inl less ↦ q f (within z.place f here less) | inr w ↦ apart z f p.0 here w.1 ]
      ],
    )
    step (Some z) (Some x) p q = (
      at_last x (out z.place x q.0).1,
      λ f s l.
          let less : f.place < z.place = lesser f.place x.place z.place (elim l [ inl a ↦ omega (arith, a) | inr w ↦ let same = w.0 in omega (arith, same) ]) (out z.place x q.0).0 in
          elim (split f s) [ inl e ↦ p.1 f e (inl less) | inr here ↦ q.1 f (within z.place f here less) l ],
    )
      where
        lesser : (a b c : ℕ) → a ≤ b → b < c → a < c
        lesser a b c l m = omega arith

  passed : (n k : ℕ) (f : Found) → IsSoughtTo h kinds (place n) k f → IsSoughtTo h kinds (place n + 1) 0 f
  passed n k f (s, inl less) = (s, inl (omega (arith, less)))
  passed n k f (s, inr (at, le)) = (s, inl (omega (arith, at)))

  -- behind a transaction, where what is sought at it is among so many first operations
  txn_passed : (n k : ℕ) (t : Txn) → find_txn h.txns n ≡ Some t → ((f : Found) → IsSought h kinds f → f.txn ≡ n → f.op ≤ k) → (found : Option Found) → IsFirstOf (ComesFirst h) (IsSoughtTo h kinds (place n) k) found
      → IsFirstOf (ComesFirst h) (IsSoughtTo h kinds (place n + 1) 0) found
  txn_passed n k t there all found first = first_like (ComesFirst h) (IsSoughtTo h kinds (place n) k) (IsSoughtTo h kinds (place n + 1) 0) found (passed n k) back first
    where
      back : (f : Found) → IsSoughtTo h kinds (place n + 1) 0 f → (IsSoughtTo h kinds (place n) k f → ⊥) → ⊥
      back f (s, inr (at, le)) denied = let w = op_within (ops_of h f.txn) f.op s.1.0 s.1.1.1 in absurd (omega (arith, w.0, le))
      back f (s, inl less) denied =
          let cases : (place f.txn < place n) ⊎ (place f.txn ≡ place n) = grind arith in
          elim cases [
            | inl before ↦ denied (s, inl before)
            | inr at ↦
                let a = committed_there h f.txn s.1.1.0 in
                denied (s, inr (at, all f s (one_txn h.txns f.txn n a.0 t a.1 there at)))
          ]

  -- behind all operations of a committed transaction
  pub ops_passed : (n : ℕ) → IsCommitted h n → (ops : List Op) → ops_of h n ≡ ops → (k : ℕ) → length ops ≤ k → (found : Option Found) → IsFirstOf (ComesFirst h) (IsSoughtTo h kinds (place n) k) found
      → IsFirstOf (ComesFirst h) (IsSoughtTo h kinds (place n + 1) 0) found
  ops_passed n c ops same k all found first =
      let t = committed_there h n c in
      txn_passed n k t.0 t.1
      (λ f s at. let w = op_within ops f.op s.1.0 (ap (λ os. op_at os f.op) (sym same) ∙ ap (λ m. op_at (ops_of h m) f.op) (sym at) ∙ s.1.1.1) in omega (arith, w.1, all)) found first

  -- behind an aborted one
  pub aborted_passed : (t : Txn) → find_txn h.txns t.no ≡ Some t → t.outcome ≡ Aborted → (found : Option Found) → IsFirstOf (ComesFirst h) (IsSoughtTo h kinds (place t.no) 0) found
      → IsFirstOf (ComesFirst h) (IsSoughtTo h kinds (place t.no + 1) 0) found
  aborted_passed t there aborted found first =
      txn_passed t.no 0 t there
      (λ f s at.
      let ended : outcome_of h t.no ≡ Some Aborted = ap (option_map (λ (u : Txn). u.outcome)) there ∙ ap Some aborted in
      absurd (false≢true (sym (ap has_committed (ap (outcome_of h) at ∙ ended)) ∙ ap has_committed s.1.1.0))) found first

  -- what comes before what is sought up to an operation is so too
  up_to : (p k : ℕ) (f g : Found) → IsSoughtTo h kinds p k f → IsSought h kinds g → ComesBefore h (g.txn, g.op, g.row) (f.txn, f.op, f.row) → IsSoughtTo h kinds p k g
  up_to p k f g (_, inl less) s (inl before) = (s, inl (omega (arith, less, before)))
  up_to p k f g (_, inr (at, le)) s (inl before) = (s, inl (omega (arith, at, before)))
  up_to p k f g (_, inl less) s (inr (alike, _)) = let places = ap place alike in (s, inl (omega (arith, less, places)))
  up_to p k f g (_, inr (at, le)) s (inr (alike, inl before)) = (s, inr (ap place alike ∙ at, omega (arith, le, before)))
  up_to p k f g (_, inr (at, le)) s (inr (alike, inr (number, _))) = (s, inr (ap place alike ∙ at, omega (arith, le, number)))

  -- the kinds of what is found are there
  pub bounded : (p k : ℕ) (found : Option Found) → IsFirstOf (ComesFirst h) (IsSoughtTo h kinds p k) found → IfSome found (λ f. f.place ≤ length kinds)
  bounded p k None first = tt
  bounded p k (Some f) first = let within = slice_get_within kinds f.place (Some f.kind) first.0.0.0 in omega (arith, within)

  none_left : (found : Option Found) → IfSome found (λ f. f.place ≤ length kinds) → length (take (limit kinds found) kinds) ≡ 0 → limit kinds found ≡ 0
  none_left None within none = sym (length-take-le (length kinds) kinds (omega arith)) ∙ none
  none_left (Some f) within none = sym (length-take-le f.place kinds within) ∙ none

  -- where no kind is left to look for, what is found is the first at all operations of the transaction
  nothing_more : (n k : ℕ) (found : Option Found) → limit kinds found ≡ 0 → IsFirstOf (ComesFirst h) (IsSoughtTo h kinds (place n) k) found → IsFirstOf (ComesFirst h) (IsSoughtTo h kinds (place n + 1) 0) found
  nothing_more n k None none first = λ f s. let within = slice_get_within kinds f.place (Some f.kind) s.0.0 in absurd (omega (arith, within, none))
  nothing_more n k (Some f) none first = (passed n k f first.0, λ g s l. elim l [ inl less ↦ absurd (omega (arith, less, none)) | inr w ↦ first.1 g (up_to (place n) k f g first.0 s.0 w.1) (inr w) ])

  pub settled : (n k : ℕ) (found : Option Found) → (length (take (limit kinds found) kinds) == 0) ≡ true → IsFirstOf (ComesFirst h) (IsSoughtTo h kinds (place n) k) found
      → IsFirstOf (ComesFirst h) (IsSoughtTo h kinds (place n + 1) 0) found
  settled n k found none first = nothing_more n k found (none_left found (bounded (place n) k found first) (eqb-true (length (take (limit kinds found) kinds)) 0 none)) first

  -- before the first transaction, and behind the last
  none_before : (f : Found) → IsSoughtTo h kinds 0 0 f → ⊥
  none_before f (s, inl less) = absurd (omega (arith, less))
  none_before f (s, inr (at, le)) = let w = op_within (ops_of h f.txn) f.op s.1.0 s.1.1.1 in absurd (omega (arith, w.0, le))

  pub at_start : IsFirstOf (ComesFirst h) (IsSoughtTo h kinds 0 0) None
  at_start = none_before

  pub at_end : (p : ℕ) → length h.txns ≤ p → (found : Option Found) → IsFirstOf (ComesFirst h) (IsSoughtTo h kinds p 0) found → IsFirstOf (ComesFirst h) (IsSought h kinds) found
  at_end p all found first =
      first_like (ComesFirst h) (IsSoughtTo h kinds p 0) (IsSought h kinds) found (λ f s. s.0)
      (λ f s denied.
      let a = committed_there h f.txn s.1.1.0 in
      let within = place_within h.txns f.txn a.0 a.1 in
      denied (s, inl (omega (arith, within, all)))) first

  module _ (n k : ℕ) (op : Op) where
    -- no kind among so many first ones is true of an operation
    abbrev pub NoneBefore : ℕ → Type 0
    NoneBefore p = (q : ℕ) (kind : OpFault) (row : Row) → q < p → slice_get kinds q ≡ Some (Some kind) → is_broken kind h n k op row ≡ true → ⊥

    pub one_more : (p : ℕ) → NoneBefore p → ((kind : OpFault) (row : Row) → slice_get kinds p ≡ Some (Some kind) → is_broken kind h n k op row ≡ true → ⊥) → NoneBefore (p + 1)
    one_more p before none q kind row less g t =
        let cases : (q < p) ⊎ (q ≡ p) = grind arith in
        elim cases [ inl earlier ↦ before q kind row earlier g t | inr here ↦ none kind row (ap (slice_get kinds) (sym here) ∙ g) t ]

    module _ (there : IsCommittedOp h n k op) where
      -- what is sought at the operation is true of it
      tested_here : (f : Found) → IsSoughtAt h kinds n k f → is_broken f.kind h n k op f.row ≡ true
      tested_here f ((_, (other, (committed, is_op), t)), at, number) =
          let same : other ≡ op = same_Some other op (sym is_op ∙ ap (λ m. op_at (ops_of h m) f.op) at ∙ ap (op_at (ops_of h n)) number ∙ there.1) in
          subst (λ o. is_broken f.kind h n k o f.row ≡ true) same (subst (λ j. is_broken f.kind h n j other f.row ≡ true) number (subst (λ m. is_broken f.kind h m f.op other f.row ≡ true) at t))

      pub none_here : NoneBefore (length kinds) → IsFirstOf (ComesFirst h) (IsSoughtAt h kinds n k) None
      none_here none = λ f s. none f.place f.kind f.row (slice_get_within kinds f.place (Some f.kind) s.0.0) s.0.0 (tested_here f s)

      -- the first kind that is true of it, at its least row
      pub first_here : (p : ℕ) (kind : OpFault) (row : Row) → NoneBefore p → slice_get kinds p ≡ Some (Some kind) → IsLeastRow (λ row. is_broken kind h n k op row ≡ true) (Some row)
          → IsFirstOf (ComesFirst h) (IsSoughtAt h kinds n k) (Some (record { kind = kind; place = p; txn = n; op = k; row = row }))
      first_here p kind row before at least = (((at, (op, there, least.0)), refl, refl), denied)
        where
          denied : (f : Found) → IsSoughtAt h kinds n k f → ComesFirst h f (record { kind = kind; place = p; txn = n; op = k; row = row }) → ⊥
          denied f s (inl less) = before f.place f.kind f.row less s.0.0 (tested_here f s)
          denied f (s, here, number) (inr (same, inl less)) = let places = ap place here in absurd (omega (arith, places, less))
          denied f (s, here, number) (inr (same, inr (alike, inl less))) = absurd (omega (arith, number, less))
          denied f s (inr (same, inr (alike, inr (number, less)))) =
              let is : f.kind ≡ kind = same_Some f.kind kind (same_Some (Some f.kind) (Some kind) (sym s.0.0 ∙ ap (slice_get kinds) same ∙ at)) in
              least.1 f.row (subst (λ x. is_broken x h n k op f.row ≡ true) is (tested_here f s)) less
