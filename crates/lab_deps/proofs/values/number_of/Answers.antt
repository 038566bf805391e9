use Rattle.std.proofs.Common.{sym, ap, ◌∙◌}
use Rattle.lab_deps.{specs.Turns.{alike}, proofs.NumberedStates.{first_number, other_number}}
use Rattle.lab_deps.proofs.values.number_of.Goals as goal

pub returns-then-are_alike : goal.returns-then-are_alike
returns-then-are_alike c = first_number c.args.exact c.args.before.now c.args.others.now c.args.value.now (sym c.are_alike.ensures ∙ c.if-are_alike.true)

pub returns-then-are_alike-2 : goal.returns-then-are_alike-2
returns-then-are_alike-2 c =
    let other = c.index-others-place.result in
    other_number c.args.exact c.args.before.now c.args.others.now c.args.value.now c.loop-place.place other c.loop-place-test.true
    (ap (λ x. alike c.args.exact x c.args.value.now) (sym c.index-others-place.is) ∙ (sym c.are_alike-in-loop-place.ensures ∙ c.if-are_alike-2.true))
