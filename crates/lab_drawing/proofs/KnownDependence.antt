-- The dependencies of a sound history are those that the tests of its operations find.
use Rattle.std.{proofs.{Common.{◌≡◌, ◌≢◌, ◌⊎◌, inl, inr, ℕ, zero, suc, ◌==◌, Bool, true, false, ◌&&◌, ◌||◌, not, cond, Some, List, [], ◌∷◌, refl, sym, ap, ◌∙◌}, lemmas.{Bool.{false≢true, true≢false, and_parts, and_from, or_cases, or_left, or_right, not-true, not_from_false, eqb-true, eq-eqb}, Option.{none-some, same_Some}}}, specs.{Prelude.{◌↔◌, Contains, slice_get}}}
use Rattle.lab_table.{specs.Row.{Row}, proofs.Members.{member_at}}
use Rattle.lab_history.specs.{History.{History}, Version.{IsCommitted, ops_of, outcome_of, installers, place_in}, declared.operation.Op.{Op}}
use Rattle.lab_deps.specs.{Edges.{Depends, IsEdge}, KindBits.{edge_of}, KindSets.{among, is_flow, is_anti}, KindsBetween.{KindsBetween}, Soundness.{IsSound, Stands, has_committed}, declared.{edge.{Edge.{Edge}, Kind.{Kind, TheVariants.{Write, ItemRead, PredicateRead, ItemAnti, PredicateAnti}}}, fault.LocalFault.TheVariants.{InstallOrder}, kinds.{Kinds.{Kinds}, TheConstants.Kinds.{FLOW, ANTI}}}}
use Rattle.lab_deps.proofs.{Found.{committed as is_committed}, NamedKinds.{flow_has, antis_has}}
use Rattle.lab_drawing.specs.{Dependence.{depends_at, is_tied, are_two, flows, passes}, Forks.{follows, depends}, Making.{anti_first, makes}}
use Rattle.lab_drawing.proofs.{InstalledRows.{one_found}, MadeDependencies.{dependencies_made}, SameTests.{same_test}, Orderables.{some_passes}, RowEntries.{any_row, row_any}}
use Rattle.lab_drawing.proofs.MadeArrows as made
use Rattle.std.proofs.lemmas.List.Folds.{Any-from_list_any}
use Rattle.std.proofs.lemmas.Option.{slice_get-get_or}

-- a number right after another one in a list
follows_so : (first next : ℕ) (is_behind : Bool) (ns : List ℕ) → follows first next is_behind ns ≡ true
    → ((is_behind ≡ true) × (slice_get ns 0 ≡ Some next)) ⊎ ((p : ℕ) × (slice_get ns p ≡ Some first) × (slice_get ns (suc p) ≡ Some next))
follows_so first next is_behind [] is = absurd (false≢true is)
follows_so first next is_behind (n ∷ ns) is =
    elim (is_behind && (n == next)) as (λ b. (is_behind && (n == next)) ≡ b → cond b true (follows first next (n == first) ns) ≡ true
    → ((is_behind ≡ true) × (slice_get (n ∷ ns) 0 ≡ Some next)) ⊎ ((p : ℕ) × (slice_get (n ∷ ns) p ≡ Some first) × (slice_get (n ∷ ns) (suc p) ≡ Some next))) [
      | true ↦ λ both _. let parts = and_parts is_behind (n == next) both in inl (parts.0, ap Some (eqb-true n next parts.1))
      | false ↦ λ _ rest. elim (follows_so first next (n == first) ns rest) [
        | inl (here, there) ↦ inr (0, ap Some (eqb-true n first here), there)
        | inr (p, one, other) ↦ inr (suc p, one, other)
      ]
    ] refl is

so_follows : (first next : ℕ) (is_behind : Bool) (ns : List ℕ) (p : ℕ) → slice_get ns p ≡ Some first → slice_get ns (suc p) ≡ Some next → follows first next is_behind ns ≡ true
so_follows first next is_behind [] p one other = absurd (none-some first one)
so_follows first next is_behind (n ∷ []) zero one other = absurd (none-some next other)
so_follows first next is_behind (n ∷ m ∷ ns) zero one other =
    let here : (n == first) ≡ true = eq-eqb n first (same_Some n first one) in
    let there : (m == next) ≡ true = eq-eqb m next (same_Some m next other) in
    later (is_behind && (n == next)) (follows first next (n == first) (m ∷ ns))
    (ap (λ b. cond b true (follows first next (m == first) ns)) (and_from (n == first) (m == next) here there))
  where
    later : (b rest : Bool) → rest ≡ true → cond b true rest ≡ true
    later true rest is = refl
    later false rest is = is
so_follows first next is_behind (n ∷ ns) (suc p) one other =
    later (is_behind && (n == next)) (follows first next (n == first) ns) (so_follows first next (n == first) ns p one other)
  where
    later : (b rest : Bool) → rest ≡ true → cond b true rest ≡ true
    later true rest is = refl
    later false rest is = is

module _ (h : History) (sound : IsSound h) where
  installed : (row : Row) → Stands h (InstallOrder row) → ⊥
  installed row = sound (InstallOrder row)

  module _ (from to : ℕ) (row : Row) where
    -- by an operation of the reader
    made_so : (kind : Kind) → kind ≢ Write → depends h from to kind row ≡ true → Depends h kind row from to
    made_so kind other is =
        let ops : List Op = ops_of h (anti_first kind from to) in
        let found = Any-from_list_any (makes h (edge_of from to kind row)) ops is in
        let at : slice_get ops found.0 ≡ Some found.1 = slice_get-get_or ops found.0 found.1 found.2 ∙ ap Some found.3 in
        (dependencies_made h kind row from to other).1 (suc found.0, made.makes_it h installed row from to kind found.0 found.1 at found.4)

    so_made : (kind : Kind) → kind ≢ Write → Depends h kind row from to → depends h from to kind row ≡ true
    so_made kind other there =
        let by = (dependencies_made h kind row from to other).0 there in
        let w = made.passes h installed row from to kind by.0 by.1 in
        some_passes (makes h (edge_of from to kind row)) (ops_of h (anti_first kind from to)) w.1 (member_at (ops_of h (anti_first kind from to)) w.0 w.1 w.3) w.4

    written_so : follows from to false (installers h row) ≡ true → Depends h Write row from to
    written_so is = elim (follows_so from to false (installers h row) is) [ inl (never, there) ↦ absurd (false≢true never) | inr pair ↦ pair ]

    depends_so : (kind : Kind) → depends_at h from to kind row ≡ true → Depends h kind row from to
    depends_so Write is = written_so is
    depends_so ItemRead is = made_so ItemRead (λ e. cc) is
    depends_so PredicateRead is = made_so PredicateRead (λ e. cc) is
    depends_so ItemAnti is = made_so ItemAnti (λ e. cc) is
    depends_so PredicateAnti is = made_so PredicateAnti (λ e. cc) is

    so_depends : (kind : Kind) → Depends h kind row from to → depends_at h from to kind row ≡ true
    so_depends Write (p, one, other) = so_follows from to false (installers h row) p one other
    so_depends ItemRead there = so_made ItemRead (λ e. cc) there
    so_depends PredicateRead there = so_made PredicateRead (λ e. cc) there
    so_depends ItemAnti there = so_made ItemAnti (λ e. cc) there
    so_depends PredicateAnti there = so_made PredicateAnti (λ e. cc) there

    -- a row with a dependency has an installer
    placed : (kind : Kind) → Depends h kind row from to → (n p : ℕ) × (place_in (installers h row) n ≡ Some p)
    placed Write (p, one, other) = (from, suc p, one_found h installed row p from one)
    placed ItemRead (op, p, sees, lists, at) = (from, suc p, one_found h installed row p from at)
    placed PredicateRead (op, v, p, sees, less, at, changed) = (from, suc p, one_found h installed row p from at)
    placed ItemAnti (op, v, sees, lists, at) = (to, suc v, one_found h installed row v to at)
    placed PredicateAnti (op, v, p, sees, least, at, changed) = (to, suc p, one_found h installed row p to at)

  tied_so : (kind : Kind) (from to : ℕ) → is_tied h kind from to ≡ true → (row : Row) × Depends h kind row from to
  tied_so kind from to is = let found = row_any h (depends_at h from to kind) is in (found.0, depends_so from to found.0 kind found.1)

  so_tied : (kind : Kind) (from to : ℕ) (row : Row) → Depends h kind row from to → is_tied h kind from to ≡ true
  so_tied kind from to row there =
      let at = placed from to row kind there in
      any_row h (depends_at h from to kind) row at.0 at.1 at.2 (so_depends from to row kind there)

  two_so : (from to : ℕ) → are_two h from to ≡ true → IsCommitted h from × IsCommitted h to × (from ≢ to)
  two_so from to is =
      let parts = and_parts (has_committed (outcome_of h from)) (has_committed (outcome_of h to) && not (from == to)) is in
      let more = and_parts (has_committed (outcome_of h to)) (not (from == to)) parts.1 in (
        is_committed (outcome_of h from) parts.0,
        is_committed (outcome_of h to) more.0,
        λ same. true≢false (sym (eq-eqb from to same) ∙ not-true (from == to) more.1),
      )

  so_two : (from to : ℕ) → IsCommitted h from → IsCommitted h to → from ≢ to → are_two h from to ≡ true
  so_two from to a b apart =
      and_from (has_committed (outcome_of h from)) (has_committed (outcome_of h to) && not (from == to)) (ap has_committed a)
      (and_from (has_committed (outcome_of h to)) (not (from == to)) (ap has_committed b) (not_from_false (from == to) (differ (from == to) refl)))
    where
      differ : (b : Bool) → (from == to) ≡ b → b ≡ false
      differ true is = absurd (apart (eqb-true from to is))
      differ false is = refl

  -- which kinds there are
  abbrev HasKind : (Kind → Bool) → ℕ → ℕ → Type 0
  HasKind test from to = (kind : Kind) × (test kind ≡ true) × IsCommitted h from × IsCommitted h to × (from ≢ to) × ((row : Row) × Depends h kind row from to)

  flows_so : (from to : ℕ) → flows h from to ≡ true → HasKind is_flow from to
  flows_so from to is =
      let parts = and_parts (are_two h from to) (is_tied h Write from to || (is_tied h ItemRead from to || is_tied h PredicateRead from to)) is in
      let two = two_so from to parts.0 in
      elim (or_cases (is_tied h Write from to) (is_tied h ItemRead from to || is_tied h PredicateRead from to) parts.1) [
        | inl write ↦ (Write, refl, two.0, two.1, two.2, tied_so Write from to write)
        | inr reads ↦ elim (or_cases (is_tied h ItemRead from to) (is_tied h PredicateRead from to) reads) [
          | inl item ↦ (ItemRead, refl, two.0, two.1, two.2, tied_so ItemRead from to item)
          | inr predicate ↦ (PredicateRead, refl, two.0, two.1, two.2, tied_so PredicateRead from to predicate)
        ]
      ]

  passes_so : (from to : ℕ) → passes h from to ≡ true → HasKind is_anti from to
  passes_so from to is =
      let parts = and_parts (are_two h from to) (is_tied h ItemAnti from to || is_tied h PredicateAnti from to) is in
      let two = two_so from to parts.0 in
      elim (or_cases (is_tied h ItemAnti from to) (is_tied h PredicateAnti from to) parts.1) [
        | inl item ↦ (ItemAnti, refl, two.0, two.1, two.2, tied_so ItemAnti from to item)
        | inr predicate ↦ (PredicateAnti, refl, two.0, two.1, two.2, tied_so PredicateAnti from to predicate)
      ]

  so_flows : (from to : ℕ) → HasKind is_flow from to → flows h from to ≡ true
  so_flows from to (kind, is, a, b, apart, (row, there)) =
      and_from (are_two h from to) (is_tied h Write from to || (is_tied h ItemRead from to || is_tied h PredicateRead from to)) (so_two from to a b apart) (by kind is (so_tied kind from to row there))
    where
      by : (kind : Kind) → is_flow kind ≡ true → is_tied h kind from to ≡ true → (is_tied h Write from to || (is_tied h ItemRead from to || is_tied h PredicateRead from to)) ≡ true
      by Write is tie = or_left (is_tied h Write from to) (is_tied h ItemRead from to || is_tied h PredicateRead from to) tie
      by ItemRead is tie = or_right (is_tied h Write from to) (is_tied h ItemRead from to || is_tied h PredicateRead from to) (or_left (is_tied h ItemRead from to) (is_tied h PredicateRead from to) tie)
      by PredicateRead is tie = or_right (is_tied h Write from to) (is_tied h ItemRead from to || is_tied h PredicateRead from to) (or_right (is_tied h ItemRead from to) (is_tied h PredicateRead from to) tie)
      by ItemAnti is tie = absurd (false≢true is)
      by PredicateAnti is tie = absurd (false≢true is)

  so_passes : (from to : ℕ) → HasKind is_anti from to → passes h from to ≡ true
  so_passes from to (kind, is, a, b, apart, (row, there)) =
      and_from (are_two h from to) (is_tied h ItemAnti from to || is_tied h PredicateAnti from to) (so_two from to a b apart) (by kind is (so_tied kind from to row there))
    where
      by : (kind : Kind) → is_anti kind ≡ true → is_tied h kind from to ≡ true → (is_tied h ItemAnti from to || is_tied h PredicateAnti from to) ≡ true
      by Write is tie = absurd (false≢true is)
      by ItemRead is tie = absurd (false≢true is)
      by PredicateRead is tie = absurd (false≢true is)
      by ItemAnti is tie = or_left (is_tied h ItemAnti from to) (is_tied h PredicateAnti from to) tie
      by PredicateAnti is tie = or_right (is_tied h ItemAnti from to) (is_tied h PredicateAnti from to) tie

  -- what is known of a net of these dependencies
  module _ (net : KindsBetween) (exact : (e : Edge) → Contains net.edges e ↔ IsEdge h e) (from to : ℕ) (kinds : Kinds)
      (are : (kind : Kind) → among kinds kind ≡ true ↔ ((row : Row) × Contains net.edges (edge_of from to kind row))) where
    has_so : (test : Kind → Bool) (named : Kinds) → ((kind : Kind) → among named kind ≡ test kind) → ((kind : Kind) × (among kinds kind ≡ true) × (among named kind ≡ true)) → HasKind test from to
    has_so test named is (kind, there, passes_it) =
        let found = (are kind).0 there in
        let edge : IsEdge h (edge_of from to kind found.0) = (exact (edge_of from to kind found.0)).0 found.1 in
        (kind, sym (is kind) ∙ passes_it, edge.0, edge.1, edge.2, (found.0, edge.3))

    so_has : (test : Kind → Bool) (named : Kinds) → ((kind : Kind) → among named kind ≡ test kind) → HasKind test from to → ((kind : Kind) × (among kinds kind ≡ true) × (among named kind ≡ true))
    so_has test named is (kind, passes_it, a, b, apart, (row, there)) =
        (kind, (are kind).1 (row, (exact (edge_of from to kind row)).1 (a, b, apart, there)), is kind ∙ passes_it)

    pub flow_is : (result : Bool) → (result ≡ true ↔ ((kind : Kind) × (among kinds kind ≡ true) × (among FLOW kind ≡ true))) → result ≡ flows h from to
    flow_is result meets = same_test result (flows h from to) (λ is. so_flows from to (has_so is_flow FLOW flow_has (meets.0 is))) (λ is. meets.1 (so_has is_flow FLOW flow_has (flows_so from to is)))

    pub passing_is : (result : Bool) → (result ≡ true ↔ ((kind : Kind) × (among kinds kind ≡ true) × (among ANTI kind ≡ true))) → result ≡ passes h from to
    passing_is result meets = same_test result (passes h from to) (λ is. so_passes from to (has_so is_anti ANTI antis_has (meets.0 is))) (λ is. meets.1 (so_has is_anti ANTI antis_has (passes_so from to is)))
