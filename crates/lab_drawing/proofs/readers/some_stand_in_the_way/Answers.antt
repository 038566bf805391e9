use Rattle.std.proofs.{Common.{◌≡◌, ◌+◌, ◌∷◌, true, false, ◌||◌, drop, sym, ap, ◌∙◌}, lemmas.{Bool.{or_left}, List.{drop_more}}}
use Rattle.lab_drawing.specs.Readers.{stands_in_the_way, some_stand_in_the_way}
use Rattle.lab_drawing.proofs.readers.some_stand_in_the_way.Goals as goal

pub returns-then-stands : goal.returns-then-stands
returns-then-stands c =
    let h = c.args.history.now in
    let walk = c.args.walk.now in
    let i = c.loop-edge.edge-index in
    let e = c.edge-item.result in
    let rest = drop (i + 1) walk in
    let left : drop i walk ≡ e ∷ rest = drop_more walk i e c.loop-edge-test.true ∙ ap (λ x. x ∷ rest) (sym c.edge-item.is) in
    let yes : stands_in_the_way h e.from ≡ true = sym c.in_ok-stands.ensures ∙ c.if-stands.true in
    sym (or_left (stands_in_the_way h e.from) (some_stand_in_the_way h rest) yes) ∙ ap (some_stand_in_the_way h) (sym left) ∙ c.loop-edge.invariant

pub loop-edge-preserved : goal.loop-edge-preserved
loop-edge-preserved c =
    let h = c.args.history.now in
    let walk = c.args.walk.now in
    let i = c.loop-edge.edge-index in
    let e = c.edge-item.result in
    let rest = drop (i + 1) walk in
    let left : drop i walk ≡ e ∷ rest = drop_more walk i e c.loop-edge-test.true ∙ ap (λ x. x ∷ rest) (sym c.edge-item.is) in
    let no_one : stands_in_the_way h e.from ≡ false = sym c.in_ok-stands.ensures ∙ c.if-stands.false in
    sym (ap (λ b. b || some_stand_in_the_way h rest) no_one) ∙ ap (some_stand_in_the_way h) (sym left) ∙ c.loop-edge.invariant
