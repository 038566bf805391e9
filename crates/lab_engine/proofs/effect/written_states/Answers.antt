use Rattle.lab_engine.proofs.{Common.{IfOk-weaker, sym, ◌∙◌}, Effects.{change_sorted, change_found}}
use Rattle.lab_engine.proofs.effect.written_states.Goals as goal

pub returns-else-is_read_only-clause-sorted : goal.returns-else-is_read_only-clause-sorted
returns-else-is_read_only-clause-sorted c =
    IfOk-weaker c.states.result _ _ (λ v made. change_sorted c.args.statement.now c.args.matching.now v.items made c.requires) c.states.ensures

pub returns-else-is_read_only-clause-found : goal.returns-else-is_read_only-clause-found
returns-else-is_read_only-clause-found c = λ states are runs.
    IfOk-weaker c.states.result _ _
    (λ v made.
    change_found c.args.statement.now c.args.matching.now v.items made (sym c.is_read_only.ensures ∙ c.if-is_read_only.false) (sym c.inserted.ensures ∙ c.in-None.is) states are runs)
    c.states.ensures
