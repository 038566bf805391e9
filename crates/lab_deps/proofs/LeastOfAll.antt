-- The least edge from one transaction to another is of the first kind that there is, at the least row.
use Rattle.std.proofs.{Common.{◌≡◌, ◌↔◌, ◌≤◌, ◌<◌, ◌+◌, ℕ, Bool, true, false, ◌==◌, cond, Option, Some, None, refl, sym, ap, ◌∙◌, subst, arith, inl, inr}, lemmas.{Bool.{cases_eq, false≢true, false_from_ne_true, eqb-true, le-ltb, and_parts, and_from}, Cmp.{nat_cmp_total}}}
use Rattle.std.specs.{Prelude.{Contains, option_map}, Ordering.{is_lt, nat_cmp, ordering_then}, Cmp.{tied_itself}, declared.cmp.Ordering.{Ordering, TheVariants.{Less, Equal, Greater}}}
use Rattle.lab_table.specs.Row.{Row, row_cmp}
use Rattle.lab_history.specs.{History.{History}, Version.{IsCommitted}}
use Rattle.lab_deps.specs.{Edges.{Depends, IsEdge}, EdgeOrder.{kind_place, edge_cmp}, FirstOf.{IsFirstOf, IsLeastRow}, KindBits.{edge_of}, LeastEdge.{Fits, IsLeastFitting, both_have, least_kind}, Scopes.{Allows, edges_in}, Soundness.{Stands}}
use Rattle.lab_deps.specs.declared.{edge.{Edge.{Edge}, Kind.{Kind, TheVariants.{Write, ItemRead, PredicateRead, ItemAnti, PredicateAnti}}}, fault.LocalFault.TheVariants.{InstallOrder}, scope.Scope.{Scope, TheVariants.{All, Writes}}}
use Rattle.lab_deps.proofs.{CollectedEdges.{edge_is_collected}, EachKind.{each_kind}, EdgeOrders.{same_kind}, FirstOf.{first_like}, ScopedEdges.{are_edges}, WriteEdges.{are_writes, writes_are}}

-- one kind stands before another
abbrev IsEarlier : Kind → Kind → Type 0
IsEarlier a b = kind_place a < kind_place b

module _ (a b : Kind → Bool) where
  -- two sets have a kind, which is none before a place
  abbrev From : ℕ → Kind → Type 0
  From place kind = (both_have a b kind ≡ true) × (place ≤ kind_place kind)

  none_left : IsFirstOf IsEarlier (From 5) None
  none_left = λ other w. each_kind (λ k. 5 ≤ kind_place k → ⊥) (λ l. omega (arith, l)) (λ l. omega (arith, l)) (λ l. omega (arith, l)) (λ l. omega (arith, l)) (λ l. omega (arith, l)) other w.1

  one_more : (kind : Kind) (place : ℕ) (rest : Option Kind) → kind_place kind ≡ place → IsFirstOf IsEarlier (From (place + 1)) rest → IsFirstOf IsEarlier (From place) (cond (both_have a b kind) (Some kind) rest)
  one_more kind place rest at first =
      elim (both_have a b kind) as (λ t. both_have a b kind ≡ t → IsFirstOf IsEarlier (From place) (cond t (Some kind) rest)) [
        | true ↦ λ has. ((has, omega (arith, at)), λ other w less. omega (arith, at, w.1, less))
        | false ↦ λ off. first_like IsEarlier (From (place + 1)) (From place) rest (λ other w. (w.0, omega (arith, w.1)))
            (λ other w denied. elim (cases_eq (kind_place other) place) [
              | inl same ↦ false≢true (sym off ∙ (ap (both_have a b) (same_kind kind other (at ∙ sym same)) ∙ w.0))
              | inr apart ↦ denied (w.0, omega (arith, w.1, apart))
            ]) first
      ] refl

  -- of the kinds that both have this is the first
  least_first : IsFirstOf IsEarlier (From 0) (least_kind a b)
  least_first = one_more Write 0 _ refl (one_more ItemRead 1 _ refl (one_more PredicateRead 2 _ refl (one_more ItemAnti 3 _ refl (one_more PredicateAnti 4 None refl none_left))))

-- rows are installed by their committed writers
pub installed_by : (scope : Scope) (h : History) → Allows scope h → (row : Row) → Stands h (InstallOrder row) → ⊥
installed_by All h sound row = sound (InstallOrder row)
installed_by Writes h installed row = installed row

-- an edge of the kind of one that is meant is meant
meant_like : (scope : Scope) (h : History) → Allows scope h → (e f : Edge) → Contains (edges_in scope h) e → IsEdge h f → f.kind ≡ e.kind → Contains (edges_in scope h) f
meant_like All h sound e f there edge same = edge_is_collected h f edge
meant_like Writes h installed e f there edge same = writes_are h installed f (edge, same ∙ (are_writes h installed e there).1)

same_number : (n : ℕ) → nat_cmp n n ≡ Equal
same_number = tied_itself nat_cmp_total

by_kind : (a b : ℕ) (rest : Ordering) → b ≤ a → (a ≡ b → is_lt rest ≡ false) → is_lt (ordering_then (nat_cmp a b) rest) ≡ false
by_kind a b rest behind same =
    ap (λ t. is_lt (ordering_then (cond t Less (cond (a == b) Equal Greater)) rest)) (le-ltb a b behind)
    ∙ elim (a == b) as (λ t. (a == b) ≡ t → is_lt (ordering_then (cond t Equal Greater) rest) ≡ false) [
      | true ↦ λ e. same (eqb-true a b e)
      | false ↦ λ _. refl
    ] refl

-- an edge of a kind that isn't before another's, and of the same kind at no lesser row, isn't less
not_less : (e f : Edge) → e.from ≡ f.from → e.to ≡ f.to → kind_place f.kind ≤ kind_place e.kind → (e.kind ≡ f.kind → is_lt (row_cmp e.row f.row) ≡ false) → is_lt (edge_cmp e f) ≡ false
not_less e f from to behind rows =
    ap is_lt
    (
    ap (λ o. ordering_then o (ordering_then (nat_cmp e.to f.to) (ordering_then (nat_cmp (kind_place e.kind) (kind_place f.kind)) (row_cmp e.row f.row)))) (ap (λ n. nat_cmp n f.from) from ∙ same_number f.from)
    ∙ ap (λ o. ordering_then o (ordering_then (nat_cmp (kind_place e.kind) (kind_place f.kind)) (row_cmp e.row f.row))) (ap (λ n. nat_cmp n f.to) to ∙ same_number f.to)
    )
    ∙ by_kind (kind_place e.kind) (kind_place f.kind) (row_cmp e.row f.row) behind (λ same. rows (same_kind e.kind f.kind same))

module _ (scope : Scope) (h : History) (allowed : Allows scope h) (n m : ℕ) (there kinds : Kind → Bool)
    (exact : (kind : Kind) → (there kind ≡ true) ↔ ((row : Row) × Contains (edges_in scope h) (edge_of n m kind row))) where
  fits_both : (e : Edge) → Fits (edges_in scope h) n m kinds e → From there kinds 0 e.kind
  fits_both e (has, from, to, kind) = (
    and_from (there e.kind) (kinds e.kind) ((exact e.kind).1 (e.row, subst (Contains (edges_in scope h)) (λ i. edge_of (from i) (to i) e.kind e.row) has)) kind,
    omega arith,
  )

  -- where no kind is among both, no edge fits
  pub none_is_least : least_kind there kinds ≡ None → IsLeastFitting (edges_in scope h) n m kinds None
  none_is_least none = λ e fit. subst (IsFirstOf IsEarlier (From there kinds 0)) none (least_first there kinds) e.kind (fits_both e fit)

  module _ (kind : Kind) (is : least_kind there kinds ≡ Some kind) where
    first : IsFirstOf IsEarlier (From there kinds 0) (Some kind)
    first = subst (IsFirstOf IsEarlier (From there kinds 0)) is (least_first there kinds)

    in_both : (there kind ≡ true) × (kinds kind ≡ true)
    in_both = and_parts (there kind) (kinds kind) first.0.0

    -- an edge of the first kind that is among both
    some_edge : (row : Row) × Contains (edges_in scope h) (edge_of n m kind row)
    some_edge = (exact kind).0 in_both.0

    is_edge : IsEdge h (edge_of n m kind some_edge.0)
    is_edge = are_edges scope h allowed (edge_of n m kind some_edge.0) some_edge.1

    pub first_committed : IsCommitted h n
    first_committed = is_edge.0

    pub second_committed : IsCommitted h m
    second_committed = is_edge.1

    depends_of : (e : Edge) → Fits (edges_in scope h) n m kinds e → e.kind ≡ kind → Depends h kind e.row n m
    depends_of e (has, from, to, _) same =
        let w = are_edges scope h allowed e has in
        subst (λ k. Depends h k e.row n m) same (subst (λ b. Depends h e.kind e.row n b) to (subst (λ a. Depends h e.kind e.row a e.to) from w.3))

    -- an edge of this kind at the least row is the least
    pub row_is_least : (row : Option Row) → IsLeastRow (λ r. Depends h kind r n m) row → IsLeastFitting (edges_in scope h) n m kinds (option_map (edge_of n m kind) row)
    row_is_least None none = λ e fit. none some_edge.0 is_edge.3
    row_is_least (Some row) least = (
      (meant_like scope h allowed (edge_of n m kind some_edge.0) (edge_of n m kind row) some_edge.1 (is_edge.0, is_edge.1, is_edge.2, least.0) refl, refl, refl, in_both.1),
      λ e fit less.
          let later = first.1 e.kind (fits_both e fit) in
          let behind : kind_place kind ≤ kind_place e.kind = grind (arith, later) in
          false≢true (sym (not_less e (edge_of n m kind row) fit.1 fit.2 behind (λ same. false_from_ne_true (is_lt (row_cmp e.row row)) (least.1 e.row (depends_of e fit same)))) ∙ less),
    )
