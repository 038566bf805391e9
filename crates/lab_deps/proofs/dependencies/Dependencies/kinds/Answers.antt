use Rattle.std.{proofs.Common.{◌≡◌, ◌↔◌, true, sym, ap, ◌∙◌, subst}, specs.Prelude.{Contains}}
use Rattle.lab_table.specs.Row.{Row}
use Rattle.lab_deps.specs.{KindBits.{place, has_bit, bits_at, bits_of, edge_of}, KindsBetween.{KindsBetween}}
use Rattle.lab_deps.proofs.dependencies.Dependencies.kinds.Goals as goal

pub returns : goal.returns
returns c kind =
    let from = c.args.from in
    let to = c.args.to in
    let a = c.self.inside.arrows in
    let bits = bits_of a.places.items a.width a.cells.items from to in
    let is : c.bits_at-bits.result ≡ bits =
    c.bits_at-bits.ensures ∙ (ap (λ i. bits_at a.width a.cells.items i c.place-2.result) c.place.ensures ∙ ap (bits_at a.width a.cells.items (place a.places.items from)) c.place-2.ensures) in
    subst (λ b. (has_bit b kind ≡ true) ↔ ((row : Row) × Contains c.args.self.now.edges (edge_of from to kind row))) (sym is)
    (subst (λ (v : KindsBetween). (has_bit bits kind ≡ true) ↔ ((row : Row) × Contains v.edges (edge_of from to kind row))) c.self.view_is (c.self.invariant.told.exact from to kind))
