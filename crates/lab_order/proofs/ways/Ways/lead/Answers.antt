use Rattle.std.{proofs.{Common.{◌≡◌, ◌<◌, [], true, length, sym, ap, ◌∙◌, subst}, lemmas.List.{get_or_default}}, specs.Prelude.{◌↔◌, IsTrue}}
use Rattle.lab_sets.specs.Sets.{has}
use Rattle.lab_order.specs.{Arrows.{nodes_of}, Path.{Reaches}, Ways.{leads_by}}
use Rattle.lab_order.proofs.ways.Ways.lead.Goals as goal

pub returns : goal.returns
returns c =
    let from = c.args.from in
    let to = c.args.to in
    let sets = c.self.inside.sets.items in
    let inside : to < nodes_of c.self.inside.graph.now = subst (λ g. to < nodes_of g) (sym c.self.view_is) c.requires in
    let within : to < length sets = subst (λ n. to < n) (sym c.self.invariant.size) inside in
    let is : c.has.result ≡ leads_by sets from to = c.has.ensures ∙ ap (λ s. has s from) (c.index.ensures ∙ sym (get_or_default sets to [] c.index.result.now within)) in
    subst (λ b. (b ≡ true) ↔ Reaches c.args.self.now from to) (sym is)
    (subst (λ g. IsTrue (leads_by sets from to) ↔ Reaches g from to) c.self.view_is (c.self.invariant.exact from to inside))
