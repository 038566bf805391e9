use Rattle.std.{proofs.{Common.{◌≡◌, ◌+◌, ◌*◌, ◌-◌, ◌<◌, ◌≤◌, ℕ, Some, take, drop, get_or, subst, refl}, lemmas.Bool.{eqb-true}}, specs.Prelude.{Contains, slice_get}}
use Rattle.lab_deps.{specs.{KindsBetween.{KindsBetween}, declared.edge.Edge.{Edge}}, proofs.NodeCells.{bare_cells, none_there}}
use Rattle.lab_deps.proofs.dependencies.Dependencies.is_bare.Goals as goal

pub returns : goal.returns
returns c = λ is.
    let d = c.self.inside in
    let a = d.arrows in
    let ns = d.numbers.items in
    let i = c.args.from in
    let start = (i + 1) * a.width + 1 in
    let first = c.args.first in
    let beyond = c.args.beyond in
    let each = subst (λ cells. (k : ℕ) → get_or (take (beyond - first) (drop first cells)) k 0 ≤ c.greatest.result) c.row-row.ensures c.greatest.ensures in
    subst (λ (v : KindsBetween). (to : ℕ) (e : Edge) → first ≤ to → to < beyond → Contains v.edges e → slice_get v.numbers i ≡ Some e.from → slice_get v.numbers to ≡ Some e.to → ⊥) c.self.view_is
    (λ to e above below there from ends.
    none_there _ ns a.places.items a.width a.cells.items c.self.invariant.told i to e.from e.to from ends
    (bare_cells a.cells.items start first beyond c.greatest.result each (eqb-true c.greatest.result 0 is) to above below) e there refl refl)
