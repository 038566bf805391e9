use Rattle.std.proofs.lemmas.List.{take_all}
use Rattle.lab_engine.proofs.Common.{ap, append-nil, append_assoc, arith, get_or, List, Statement, subst, sym, take, take_more, take-append-drop, [], ◌++◌, ◌+◌, ◌∙◌, ◌∷◌}
use Rattle.lab_conditions.specs.Index.{Covers}
use Rattle.lab_engine.proofs.statements_run.index_rest.Goals as goal

pub loop-statement-init : goal.loop-statement-init
loop-statement-init c = subst (λ l. Covers c.args.index.now l) (sym (append-nil (take c.args.indexed c.args.list.now))) c.requires.covers

pub loop-statement-preserved : goal.loop-statement-preserved
loop-statement-preserved c =
    let front : List Statement = take c.args.indexed c.args.list.now in
    let rest : List Statement = c.split_at.result.1.now in
    let i = c.loop-statement.statement-index in
    subst (λ l. Covers c.add.new.self l)
    (append_assoc front (take i rest) (c.statement-item.result ∷ []) ∙ ap (λ l. front ++ l) (ap (λ s. take i rest ++ s ∷ []) c.statement-item.is ∙ sym (take_more rest i c.statement-item.result c.loop-statement-test.true)))
    (c.add.ensures (front ++ take i rest) c.loop-statement.invariant)

pub returns : goal.returns
returns c =
    let front : List Statement = take c.args.indexed c.args.list.now in
    let rest : List Statement = c.split_at.result.1.now in
    subst (λ l. Covers c.loop-statement.index l)
    (ap (λ l. front ++ l) (take_all c.loop-statement.statement-index rest (omega (arith, c.loop-statement-test.false)) ∙ c.split_at.ensures.back) ∙ take-append-drop c.args.indexed c.args.list.now)
    c.loop-statement.invariant
