use Rattle.std.proofs.{Common.{rules}, lemmas.List.Sorted.{answers_always}}
use Rattle.lab_history.proofs.Halving.{same_value}
use Rattle.lab_history.proofs.keyed.Keyed.new.Goals as goal

pub invariant_of-result : goal.invariant_of-result
invariant_of-result g c = c.in_ok-sort_by_key.ensures.sorted (λ e. e.0) (answers_always _ _ _ (λ f a r h k. search rules))

pub returns : goal.returns
returns g c = λ key. same_value g.met.K.Ord.total key _ _ (c.sort_by_key.ensures.stable (λ e. e.0) (answers_always _ _ _ (λ f a r h k. search rules)))
