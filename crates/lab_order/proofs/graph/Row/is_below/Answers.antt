use Rattle.std.{proofs.Common.{ltb-true, sym, ◌∙◌, ap, ◌-◌, length}, specs.List.{slice_get}}
use Rattle.lab_order.proofs.Rising.{below_last}
use Rattle.lab_order.proofs.graph.Row.is_below.Goals as goal

pub returns-in-Some : goal.returns-in-Some
returns-in-Some c = λ less.
    below_last c.args.self.now c.in-Some.last.now c.args.node c.requires
    (ap (λ ns. slice_get ns (length ns - 1)) (sym (c.deref.ensures.value ∙ c.self.view_is)) ∙ sym c.in-Some.ensures.value)
    (ltb-true _ _ less)
