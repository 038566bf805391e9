-- Where rows are installed by their committed writers each dependency has its arrow, between the operations that make it.
use Rattle.std.proofs.{Common.{◌≡◌, ℕ, zero, suc, ◌+◌, ◌-◌, ◌<◌, ◌≤◌, ◌==◌, Bool, true, ◌&&◌, Option, Some, None, is_some, List, refl, sym, ap, subst, ◌∙◌, arith}, lemmas.{Bool.{false≢true, eqb-true, eq-eqb, leb-true, le-leb, ltb-true, lt-ltb, and_parts, and_from}, Option.{none-some}}}
use Rattle.std.specs.Prelude.{slice_get, nat_le, nat_lt}
use Rattle.std.specs.FinMap as map
use Rattle.lab_table.{specs.Row.{Row}, proofs.Tests.{some_of}}
use Rattle.lab_history.{specs.{History.{History}, Version.{ops_of, op_at, viewed, installers, place_in, last_write}, declared.operation.Op.{Op}}, proofs.Greatest.{last_is_greatest}}
use Rattle.lab_deps.{specs.{Edges.{IsEdge, Depends, place_of, changes, InstallsAt}, Soundness.{Stands}, declared.{edge.{Edge.{Edge}, Kind.{Kind, TheVariants.{Write, ItemRead, PredicateRead, ItemAnti, PredicateAnti}}}, fault.LocalFault.TheVariants.{InstallOrder}}}, proofs.Places.{place_there}}
use Rattle.lab_drawing.specs.{declared.drawing.{Arrow.{Arrow}, Tie.TheVariants.{Dependency}}, Making.{anti_first, reader_of, ties, ties_at, makes, reading_op, writing_op, from_of, to_of, arrow_between, arrow_of}, ArrowLaws.{MakesAt, MakesFirst, WritesLast, LeadsBetween, IsArrowOf}}
use Rattle.lab_drawing.proofs.{FirstOps.{IsFirst, found_first}, InstalledRows.{wrote, one_found}}

-- what an operation makes, where its version and the writer's have these places
tied : (h : History) (kind : Kind) (row : Row) (op : Op) (seen own : Option ℕ) (s o : ℕ) → seen ≡ Some s → own ≡ Some o → ties_at h kind row op seen own ≡ ties h kind row op s o
tied h kind row op seen own s o a b = ap (λ x. ties_at h kind row op x own) a ∙ ap (ties_at h kind row op (Some s)) b

-- where it makes something, both have places
both_placed : (h : History) (kind : Kind) (row : Row) (op : Op) (seen own : Option ℕ) → ties_at h kind row op seen own ≡ true
    → (s o : ℕ) × (seen ≡ Some s) × (own ≡ Some o) × (ties h kind row op s o ≡ true)
both_placed h kind row op None own t = absurd (false≢true t)
both_placed h kind row op (Some s) None t = absurd (false≢true t)
both_placed h kind row op (Some s) (Some o) t = (s, o, refl, refl, t)

module _ (h : History) (installed : (row : Row) → Stands h (InstallOrder row) → ⊥) where
  -- the place of an installer is the only one at which it stands
  place_is : (row : Row) (p n : ℕ) → InstallsAt h row p n → place_in (installers h row) n ≡ Some (suc p)
  place_is row p n at = one_found h installed row p n at

  -- an installer has a last write of the row
  wrote_last : (row : Row) (p n : ℕ) → InstallsAt h row p n → (k : ℕ) × (writing_op h n row ≡ Some k) × WritesLast h n row k
  wrote_last row p n at =
      let k = some_of (last_write (ops_of h n) row) (wrote h installed row p n at) in
      (k.0, k.1, last_is_greatest (ops_of h n) row k.0 k.1)

  -- an operation's number is one more than its place
  numbered : (ops : List Op) (k : ℕ) (op : Op) → op_at ops k ≡ Some op → (i : ℕ) × (k ≡ suc i) × (slice_get ops i ≡ Some op)
  numbered ops zero op e = absurd (none-some op e)
  numbered ops (suc i) op e = (i, refl, e)

  module _ (row : Row) (from to : ℕ) where
    -- whether an operation of the reader makes a dependency of a kind
    abbrev made : Kind → Op → Bool
    made kind op = ties_at h kind row op (place_of h (anti_first kind from to) row (viewed op row)) (place_in (installers h row) (anti_first kind to from))

    below : (o s p : ℕ) → o ≡ suc p → o ≤ s → p < s
    below o s p is le = omega arith

    within : (s o p : ℕ) → o ≡ suc p → s < o → s ≤ p
    within s o p is lt = omega arith

    next_place : (o s p : ℕ) → o ≡ suc p → o - 1 ≡ s → s ≡ p
    next_place o s p is before = omega arith

    place_before : (o p : ℕ) → o ≡ suc p → o - 1 ≡ p
    place_before o p is = omega arith

    changed_at : (op : Op) (o p : ℕ) → o ≡ suc p → changes h op.statement row (o - 1) ≡ true → changes h op.statement row p ≡ true
    changed_at op o p is t = subst (λ q. changes h op.statement row q ≡ true) (place_before o p is) t

    changed_before : (op : Op) (p : ℕ) → changes h op.statement row p ≡ true → changes h op.statement row (suc p - 1) ≡ true
    changed_before op p t = subst (λ q. changes h op.statement row q ≡ true) (sym (place_before (suc p) p refl)) t

    -- one that makes it passes the test
    pub passes : (kind : Kind) (k : ℕ) → MakesAt h kind row from to k
        → (i : ℕ) × (op : Op) × (k ≡ suc i) × (slice_get (ops_of h (anti_first kind from to)) i ≡ Some op) × (made kind op ≡ true)
    passes Write k m = absurd m
    passes ItemRead k (op, p, (is_op, seen), lists, at) =
        let n = numbered (ops_of h to) k op is_op in
        let test : ties h ItemRead row op (suc p) (suc p) ≡ true = and_from (suc p == suc p) (is_some (map.get op.rows row)) (eq-eqb (suc p) (suc p) refl) lists in
        (n.0, op, n.1, n.2, tied h ItemRead row op _ _ (suc p) (suc p) seen (place_is row p from at) ∙ test)
    passes PredicateRead k (op, v, p, (is_op, seen), less, at, changed) =
        let n = numbered (ops_of h to) k op is_op in
        let low : suc p ≤ v = omega arith in
        let test : ties h PredicateRead row op v (suc p) ≡ true = and_from (nat_le (suc p) v) (changes h op.statement row (suc p - 1)) (le-leb (suc p) v low) (changed_before op p changed) in
        (n.0, op, n.1, n.2, tied h PredicateRead row op _ _ v (suc p) seen (place_is row p from at) ∙ test)
    passes ItemAnti k (op, v, (is_op, seen), lists, at) =
        let n = numbered (ops_of h from) k op is_op in
        let under : v < suc v = omega arith in
        let same : suc v - 1 ≡ v = omega arith in
        let behind : ((suc v - 1 == v) && is_some (map.get op.rows row)) ≡ true = and_from (suc v - 1 == v) (is_some (map.get op.rows row)) (eq-eqb (suc v - 1) v same) lists in
        let test : ties h ItemAnti row op v (suc v) ≡ true = and_from (nat_lt v (suc v)) ((suc v - 1 == v) && is_some (map.get op.rows row)) (lt-ltb v (suc v) under) behind in
        (n.0, op, n.1, n.2, tied h ItemAnti row op _ _ v (suc v) seen (place_is row v to at) ∙ test)
    passes PredicateAnti k (op, v, p, (is_op, seen), least, at, changed) =
        let n = numbered (ops_of h from) k op is_op in
        let under : v < suc p = omega arith in
        let test : ties h PredicateAnti row op v (suc p) ≡ true = and_from (nat_lt v (suc p)) (changes h op.statement row (suc p - 1)) (lt-ltb v (suc p) under) (changed_before op p changed) in
        (n.0, op, n.1, n.2, tied h PredicateAnti row op _ _ v (suc p) seen (place_is row p to at) ∙ test)

    -- one that passes the test makes it
    pub makes_it : (kind : Kind) (i : ℕ) (op : Op) → slice_get (ops_of h (anti_first kind from to)) i ≡ Some op → made kind op ≡ true → MakesAt h kind row from to (suc i)
    makes_it Write i op g t = let w = both_placed h Write row op _ _ t in absurd (false≢true w.4)
    makes_it ItemRead i op g t =
        let w = both_placed h ItemRead row op _ _ t in
        let at = place_there (installers h row) from w.1 w.3 in
        let parts = and_parts (w.0 == w.1) (is_some (map.get op.rows row)) w.4 in
        (op, at.0, (g, w.2 ∙ ap (λ s. Some s) (eqb-true w.0 w.1 parts.0 ∙ at.1)), parts.1, at.2)
    makes_it PredicateRead i op g t =
        let w = both_placed h PredicateRead row op _ _ t in
        let at = place_there (installers h row) from w.1 w.3 in
        let parts = and_parts (nat_le w.1 w.0) (changes h op.statement row (w.1 - 1)) w.4 in
        (op, w.0, at.0, (g, w.2), below w.1 w.0 at.0 at.1 (leb-true w.1 w.0 parts.0), at.2, changed_at op w.1 at.0 at.1 parts.1)
    makes_it ItemAnti i op g t =
        let w = both_placed h ItemAnti row op _ _ t in
        let at = place_there (installers h row) to w.1 w.3 in
        let parts = and_parts (nat_lt w.0 w.1) ((w.1 - 1 == w.0) && is_some (map.get op.rows row)) w.4 in
        let more = and_parts (w.1 - 1 == w.0) (is_some (map.get op.rows row)) parts.1 in
        (op, at.0, (g, w.2 ∙ ap (λ s. Some s) (next_place w.1 w.0 at.0 at.1 (eqb-true (w.1 - 1) w.0 more.0))), more.1, at.2)
    makes_it PredicateAnti i op g t =
        let w = both_placed h PredicateAnti row op _ _ t in
        let at = place_there (installers h row) to w.1 w.3 in
        let parts = and_parts (nat_lt w.0 w.1) (changes h op.statement row (w.1 - 1)) w.4 in
        (op, w.0, at.0, (g, w.2), within w.0 w.1 at.0 at.1 (ltb-true w.0 w.1 parts.0), at.2, changed_at op w.1 at.0 at.1 parts.1)

  -- where an operation makes a dependency, the first that does is found
  read_first : (e : Edge) (k : ℕ) → MakesAt h e.kind e.row e.from e.to k → (i : ℕ) × (reading_op h e ≡ Some (suc i)) × MakesFirst h e (suc i)
  read_first e k m =
      let w = passes e.row e.from e.to e.kind k m in
      let found = found_first (makes h e) 0 (ops_of h (reader_of e)) w.0 w.1 w.3 w.4 in
      let first = found.2 in
      (found.0, found.1 ∙ ap (λ n. Some n) (front found.0), (makes_it e.row e.from e.to e.kind found.0 first.op first.here first.passes, least found.0 first))
    where
      front : (i : ℕ) → 0 + suc i ≡ suc i
      front i = omega arith

      least : (i : ℕ) → IsFirst (makes h e) (ops_of h (reader_of e)) i → (other : ℕ) → MakesAt h e.kind e.row e.from e.to other → suc i ≤ other
      least i first other m =
          let v = passes e.row e.from e.to e.kind other m in
          let l : i ≤ v.0 = first.least v.0 v.1 v.3 v.4 in
          let same : other ≡ suc v.0 = v.2 in
          omega arith

  arrow_of_ends : (e : Edge) (a b : ℕ) → from_of h e e.kind ≡ Some a → to_of h e e.kind ≡ Some b → LeadsBetween h e e.kind a b
      → (arrow : Arrow) × (arrow_of h e ≡ Some arrow) × IsArrowOf h e arrow
  arrow_of_ends e a b from to leads = (
    record { from = record { txn = e.from; op = a }; to = record { txn = e.to; op = b }; tie = Dependency e.kind; row = e.row },
    ap (λ f. arrow_between e f (to_of h e e.kind)) from ∙ ap (arrow_between e (Some a)) to,
    record { from_is = refl; to_is = refl; tie_is = refl; row_is = refl; leads = leads },
  )

  -- the ends of a dependency are there
  ends : (row : Row) (from to : ℕ) (kind : Kind) → Depends h kind row from to → let e : Edge = record { from = from; to = to; kind = kind; row = row } in
      (a b : ℕ) × (from_of h e kind ≡ Some a) × (to_of h e kind ≡ Some b) × LeadsBetween h e kind a b
  ends row from to Write (p, at, next) =
      let f = wrote_last row p from at in
      let t = wrote_last row (suc p) to next in
      (f.0, t.0, f.1, t.1, (f.2, t.2))
  ends row from to ItemRead (op, p, ((k, is_op), seen), lists, at) =
      let f = wrote_last row p from at in
      let r = read_first (record { from = from; to = to; kind = ItemRead; row = row }) k (op, p, (is_op, seen), lists, at) in
      (f.0, suc r.0, f.1, r.1, (f.2, r.2))
  ends row from to PredicateRead (op, v, p, ((k, is_op), seen), less, at, changed) =
      let f = wrote_last row p from at in
      let r = read_first (record { from = from; to = to; kind = PredicateRead; row = row }) k (op, v, p, (is_op, seen), less, at, changed) in
      (f.0, suc r.0, f.1, r.1, (f.2, r.2))
  ends row from to ItemAnti (op, v, ((k, is_op), seen), lists, at) =
      let t = wrote_last row v to at in
      let r = read_first (record { from = from; to = to; kind = ItemAnti; row = row }) k (op, v, (is_op, seen), lists, at) in
      (suc r.0, t.0, r.1, t.1, (r.2, t.2))
  ends row from to PredicateAnti (op, v, p, ((k, is_op), seen), least, at, changed) =
      let t = wrote_last row p to at in
      let r = read_first (record { from = from; to = to; kind = PredicateAnti; row = row }) k (op, v, p, (is_op, seen), least, at, changed) in
      (suc r.0, t.0, r.1, t.1, (r.2, t.2))

  -- each dependency has its arrow
  pub has_arrow : (e : Edge) → IsEdge h e → (arrow : Arrow) × (arrow_of h e ≡ Some arrow) × IsArrowOf h e arrow
  has_arrow e edge =
      let w = ends e.row e.from e.to e.kind edge.3 in
      arrow_of_ends e w.0 w.1 w.2 w.3 w.4
