use Rattle.std.proofs.{Common.{◌≡◌, ◌+◌, ◌<◌, ◌≤◌, ◌∷◌, [], ◌++◌, false, cond, get_or, drop, sym, ap, ◌∙◌, subst, append_assoc, inl, inr}, lemmas.List.{append-nil, drop_all, drop_more}}
use Rattle.lab_deps.{specs.{Edges.{differ}, Turns.{turned, classes_of}}, proofs.NumberedStates.{none_true}}
use Rattle.lab_deps.proofs.turns.turned.Goals as goal

pub returns-then-not-has_any : goal.returns-then-not-has_any
returns-then-not-has_any c = inr (c.new.ensures.items, none_true c.args.answers.now (sym c.has_any.ensures ∙ c.if-not-has_any.true) c.args.numbers.now)

pub loop-place-preserved : goal.loop-place-preserved
loop-place-preserved c =
    let bs = c.args.answers.now in
    let gs = c.args.numbers.now in
    let vs = c.args.versions.now in
    let p = c.loop-place.place in
    let v = c.index-versions-place.result in
    let g = get_or gs p 0 in
    let before = c.loop-place.before in
    let after = get_or bs g false in
    let found = c.loop-place.found.items in
    let rest = turned after (classes_of bs (drop (p + 1) gs)) (drop (p + 1) vs) in
    let left_numbers : drop p gs ≡ g ∷ drop (p + 1) gs = drop_more gs p 0 (subst (λ n. p < n) (sym c.requires) c.loop-place-test.true) in
    let left : drop p vs ≡ v ∷ drop (p + 1) vs = drop_more vs p v c.loop-place-test.true ∙ ap (λ u. u ∷ drop (p + 1) vs) (sym c.index-versions-place.is) in
    let here = c.installer_if.ensures ∙ ap (λ b. cond b v.place 0) (c.differ.ensures ∙ ap (differ before) c.answer_at-after.ensures) in
    ap (λ b. c.push.new.self.items ++ turned b (classes_of bs (drop (p + 1) gs)) (drop (p + 1) vs)) c.answer_at-after.ensures
    ∙ (ap (λ ns. ns ++ rest) (c.in_ok-push.ensures.items ∙ ap (λ n. found ++ n ∷ []) here)
    ∙ (append_assoc found (cond (differ before after) v.place 0 ∷ []) rest
    ∙ (sym (ap (λ hs. found ++ turned before (classes_of bs hs) (drop p vs)) left_numbers ∙ ap (λ us. found ++ turned before (after ∷ classes_of bs (drop (p + 1) gs)) us) left) ∙ c.loop-place.invariant)))

pub returns : goal.returns
returns c =
    let gs = c.args.numbers.now in
    let vs = c.args.versions.now in
    let p = c.loop-place.place in
    let found = c.loop-place.found.items in
    let none = drop_all p gs (subst (λ n. n ≤ p) (sym c.requires) c.loop-place-test.false) in
    inl (sym (append-nil found) ∙ (sym (ap (λ hs. found ++ turned c.loop-place.before (classes_of c.args.answers.now hs) (drop p vs)) none) ∙ c.loop-place.invariant))
