use Rattle.std.proofs.{Common.{◌||◌, not, sym, ap, ◌∙◌}, lemmas.Result.{on_ok_weaker}}
use Rattle.lab_table.specs.{Predicate.{holds}, PredKinds.{predicate_of}}
use Rattle.lab_conditions.specs.Conditions.{any_holds}
use Rattle.lab_conditions.proofs.Ors.{or_assoc, not_and}
use Rattle.lab_conditions.proofs.conditions.Conditions.+adding.Goals as goal

pub add_condition-returns-in_ok-add_condition-in-Or : goal.add_condition-returns-in_ok-add_condition-in-Or
add_condition-returns-in_ok-add_condition-in-Or t c =
    let p = c.in-Or.p.value in
    let q = c.in-Or.q.value in
    on_ok_weaker c.add_condition-in-Or.result
    (λ more id value.
    let old = any_holds c.args.self.now id value in
    more id value ∙ ap (λ r. any_holds c.add_condition.new.self id value || holds r id value) c.deref-in-Or-2.ensures ∙ ap (λ b. b || holds q id value) (c.in_ok-add_condition-in-Or.ensures id value) ∙ or_assoc old (holds c.deref-in-Or.result.now id value) (holds q id value)
    ∙ ap (λ r. old || (holds r id value || holds q id value)) c.deref-in-Or.ensures ∙ ap (λ b. old || b) (sym (ap (λ k. holds (predicate_of k) id value) c.in-Or.is)) ∙ ap (λ pred. old || holds pred id value) c.pred.view_is)
    c.add_condition-in-Or.ensures

pub add_opposite-returns-in_ok-add_opposite-in-And : goal.add_opposite-returns-in_ok-add_opposite-in-And
add_opposite-returns-in_ok-add_opposite-in-And t c =
    let p = c.in-And.p.value in
    let q = c.in-And.q.value in
    on_ok_weaker c.add_opposite-in-And.result
    (λ more id value.
    let old = any_holds c.args.self.now id value in
    more id value ∙ ap (λ r. any_holds c.add_opposite.new.self id value || not (holds r id value)) c.deref-in-And-2.ensures ∙ ap (λ b. b || not (holds q id value)) (c.in_ok-add_opposite-in-And.ensures id value) ∙ or_assoc old (not (holds c.deref-in-And.result.now id value)) (not (holds q id value))
    ∙ ap (λ r. old || (not (holds r id value) || not (holds q id value))) c.deref-in-And.ensures ∙ ap (λ b. old || b) (sym (not_and (holds p id value) (holds q id value)) ∙ sym (ap (λ k. not (holds (predicate_of k) id value)) c.in-And.is)) ∙ ap (λ pred. old || not (holds pred id value)) c.pred.view_is)
    c.add_opposite-in-And.ensures
