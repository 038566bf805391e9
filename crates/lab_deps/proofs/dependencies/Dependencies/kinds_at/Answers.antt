use Rattle.std.proofs.{Common.{◌<◌, length, slice_index, sym, subst}, lemmas.Option.{slice_get-get_or}}
use Rattle.lab_deps.{specs.KindsBetween.{KindsBetween, AreKinds}, proofs.NodeCells.{kinds_are}}
use Rattle.lab_deps.proofs.dependencies.Dependencies.kinds_at.Goals as goal

pub returns-clause-kinds : goal.returns-clause-kinds
returns-clause-kinds c =
    let d = c.self.inside in
    let a = d.arrows in
    let ns = d.numbers.items in
    let i = c.args.from in
    let j = c.args.to in
    let low : i < length ns = subst (λ (v : KindsBetween). i < length v.numbers) (sym c.self.view_is) c.requires.from in
    let high : j < length ns = subst (λ (v : KindsBetween). j < length v.numbers) (sym c.self.view_is) c.requires.to in
    subst (λ (v : KindsBetween). AreKinds v.edges (slice_index v.numbers i) (slice_index v.numbers j) (record { bits = c.bits_at-bits.result })) c.self.view_is
    (kinds_are _ ns a.places.items a.width a.cells.items c.self.invariant.told i j (slice_index ns i) (slice_index ns j) (slice_get-get_or ns i 0 low) (slice_get-get_or ns j 0 high)
    c.bits_at-bits.result c.bits_at-bits.ensures)
