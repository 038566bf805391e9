-- Dependencies where one history stands in another, with other numbers and places.
use Rattle.std.{proofs.{Common.{◌≡◌, ℕ, suc, ◌+◌, ◌<◌, true, length, sym, ap, ◌∙◌, subst, arith}, lemmas.Option.{slice_get_within}}, specs.Prelude.{IsSome}}
use Rattle.std.specs.FinMap as map
use Rattle.lab_table.specs.{Row.{Row}, declared.statement.Statement.{Statement}}
use Rattle.lab_history.specs.{History.{History}, Version.{IsCommitted, installers}, declared.operation.Op.{Op}}
use Rattle.lab_deps.specs.{Edges.{changes, SeesPlace, InstallsAt, Lists, Depends}, declared.edge.Kind.{Kind, TheVariants.{Write, ItemRead, PredicateRead, ItemAnti, PredicateAnti}}}

-- what a transaction of the whole sees is what one of the history sees
pub record SeesUp (h : History) (made : Op → Op) (start : Row → ℕ) (n : ℕ) (op : Op) (row : Row) (v : ℕ) : Type 0 where
  pub was : Op
  pub op_is : op ≡ made was
  pub place : ℕ
  pub place_is : v ≡ start row + place
  pub sees : SeesPlace h n was row place

-- an installer of the whole is one of the history
pub record InstallsUp (h : History) (start : Row → ℕ) (row : Row) (p n : ℕ) : Type 0 where
  pub place : ℕ
  pub place_is : p ≡ start row + place
  pub installs : InstallsAt h row place n

-- A history stands in another under other numbers, with its operations made others, and each row's places counted from some start on.
pub record Embeds (h whole : History) (up : ℕ → ℕ) (made : Op → Op) (start : Row → ℕ) : Type 0 where
  pub installs_up : (row : Row) (p n : ℕ) → InstallsAt h row p n → InstallsAt whole row (start row + p) (up n)
  pub installs_down : (row : Row) (p n : ℕ) → IsCommitted h n → InstallsAt whole row p (up n) → InstallsUp h start row p n
  pub sees_up : (n : ℕ) (op : Op) (row : Row) (v : ℕ) → IsCommitted h n → SeesPlace h n op row v → SeesPlace whole (up n) (made op) row (start row + v)
  pub sees_down : (n : ℕ) (op : Op) (row : Row) (v : ℕ) → IsCommitted h n → SeesPlace whole (up n) op row v → SeesUp h made start n op row v
  pub changes_same : (s : Statement) (row : Row) (p : ℕ) → p < length (installers h row) → changes whole s row (start row + p) ≡ changes h s row p
  pub statement_same : (op : Op) → (made op).statement ≡ op.statement
  pub rows_same : (op : Op) → (made op).rows ≡ op.rows

module _ {h whole : History} {up : ℕ → ℕ} {made : Op → Op} {start : Row → ℕ} (e : Embeds h whole up made start) (row : Row) (from to : ℕ) (c_from : IsCommitted h from) (c_to : IsCommitted h to) where
  lists_up : (op : Op) → Lists op row → Lists (made op) row
  lists_up op lists = subst (λ rows. IsSome (map.get rows row)) (sym (e.rows_same op)) lists

  lists_down : (op was : Op) → op ≡ made was → Lists op row → Lists was row
  lists_down op was is lists = subst (λ rows. IsSome (map.get rows row)) (ap (λ (o : Op). o.rows) is ∙ e.rows_same was) lists

  changes_up : (op : Op) (p n : ℕ) → InstallsAt h row p n → changes h op.statement row p ≡ true → changes whole (made op).statement row (start row + p) ≡ true
  changes_up op p n at c = ap (λ s. changes whole s row (start row + p)) (e.statement_same op) ∙ e.changes_same op.statement row p (slice_get_within (installers h row) p n at) ∙ c

  changes_down : (op was : Op) (p q n : ℕ) → op ≡ made was → p ≡ start row + q → InstallsAt h row q n → changes whole op.statement row p ≡ true → changes h was.statement row q ≡ true
  changes_down op was p q n is place at c =
      sym (e.changes_same was.statement row q (slice_get_within (installers h row) q n at)) ∙ ap (λ s. changes whole s row (start row + q)) (sym (ap (λ (o : Op). o.statement) is ∙ e.statement_same was))
      ∙ ap (changes whole op.statement row) (sym place) ∙ c

  -- a dependency of the history is one of the whole
  pub depends_up : (kind : Kind) → Depends h kind row from to → Depends whole kind row (up from) (up to)
  depends_up Write (p, at, next) = (start row + p, e.installs_up row p from at, subst (λ i. InstallsAt whole row i (up to)) (omega arith) (e.installs_up row (suc p) to next))
  depends_up ItemRead (op, p, sees, lists, at) = (
    made op,
    start row + p,
    subst (λ v. SeesPlace whole (up to) (made op) row v) (omega arith) (e.sees_up to op row (suc p) c_to sees),
    lists_up op lists,
    e.installs_up row p from at,
  )
  depends_up PredicateRead (op, v, p, sees, below, at, c) =
      (made op, start row + v, start row + p, e.sees_up to op row v c_to sees, omega (arith, below), e.installs_up row p from at, changes_up op p from at c)
  depends_up ItemAnti (op, v, sees, lists, at) = (made op, start row + v, e.sees_up from op row v c_from sees, lists_up op lists, e.installs_up row v to at)
  depends_up PredicateAnti (op, v, p, sees, above, at, c) =
      (made op, start row + v, start row + p, e.sees_up from op row v c_from sees, omega (arith, above), e.installs_up row p to at, changes_up op p to at c)

  -- and one of the whole between its transactions is one of the history
  pub depends_down : (kind : Kind) → Depends whole kind row (up from) (up to) → Depends h kind row from to
  depends_down Write (p, at, next) =
      let x : InstallsUp h start row p from = e.installs_down row p from c_from at in
      let y : InstallsUp h start row (suc p) to = e.installs_down row (suc p) to c_to next in
      (x.place, x.installs, subst (λ i. InstallsAt h row i to) (omega (arith, x.place_is, y.place_is)) y.installs)
  depends_down ItemRead (op, p, sees, lists, at) =
      let x : InstallsUp h start row p from = e.installs_down row p from c_from at in
      let y : SeesUp h made start to op row (suc p) = e.sees_down to op row (suc p) c_to sees in
      (y.was, x.place, subst (λ v. SeesPlace h to y.was row v) (omega (arith, x.place_is, y.place_is)) y.sees, lists_down op y.was y.op_is lists, x.installs)
  depends_down PredicateRead (op, v, p, sees, below, at, c) =
      let x : InstallsUp h start row p from = e.installs_down row p from c_from at in
      let y : SeesUp h made start to op row v = e.sees_down to op row v c_to sees in
      (y.was, y.place, x.place, y.sees, omega (arith, x.place_is, y.place_is, below), x.installs, changes_down op y.was p x.place from y.op_is x.place_is x.installs c)
  depends_down ItemAnti (op, v, sees, lists, at) =
      let x : InstallsUp h start row v to = e.installs_down row v to c_to at in
      let y : SeesUp h made start from op row v = e.sees_down from op row v c_from sees in
      (y.was, y.place, y.sees, lists_down op y.was y.op_is lists, subst (λ i. InstallsAt h row i to) (omega (arith, x.place_is, y.place_is)) x.installs)
  depends_down PredicateAnti (op, v, p, sees, above, at, c) =
      let x : InstallsUp h start row p to = e.installs_down row p to c_to at in
      let y : SeesUp h made start from op row v = e.sees_down from op row v c_from sees in
      (y.was, y.place, x.place, y.sees, omega (arith, x.place_is, y.place_is, above), x.installs, changes_down op y.was p x.place to y.op_is x.place_is x.installs c)
