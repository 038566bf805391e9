use Rattle.std.proofs.{Common.{◌∷◌, ◌++◌, [], take, sym, ap, ◌∙◌, subst}, lemmas.{Bool.{false≢true}, List.{take_more, take_all}}}
use Rattle.lab_deps.{specs.FirstOf.{IsLeastRow}, proofs.NamedIds.{Within, one_more}}
use Rattle.lab_deps.proofs.unlisted.unlisted_among.Goals as goal

pub loop-number-init : goal.loop-number-init
loop-number-init c = λ row w. false≢true w.1

pub loop-number-preserved : goal.loop-number-preserved
loop-number-preserved c =
    let h = c.args.history.now in
    let op = c.args.op.now in
    let numbers = c.args.numbers.now in
    let i = c.loop-number.number-index in
    let number = c.number-item.result in
    subst (λ ns. IsLeastRow (Within h op ns) c.least-found.result) (sym (take_more numbers i number c.loop-number-test.true ∙ ap (λ n. take i numbers ++ n ∷ []) (sym c.number-item.is)))
    (subst (IsLeastRow (Within h op (take i numbers ++ number ∷ []))) (sym c.least-found.ensures)
    (one_more h op (take i numbers) number c.loop-number.found c.unlisted_numbered.result c.loop-number.invariant c.unlisted_numbered.ensures))

pub returns : goal.returns
returns c =
    subst (λ ns. IsLeastRow (Within c.args.history.now c.args.op.now ns) c.loop-number.found) (take_all c.loop-number.number-index c.args.numbers.now c.loop-number-test.false) c.loop-number.invariant
