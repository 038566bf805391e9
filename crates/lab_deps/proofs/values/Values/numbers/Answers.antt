use Rattle.std.proofs.{Common.{◌≡◌, ◌+◌, ◌∷◌, ◌++◌, drop, sym, ap, ◌∙◌, subst}, lemmas.List.{append-nil, drop_all, drop_more}}
use Rattle.lab_deps.{specs.Turns.{states, asked, classes_of, IsNumber}, proofs.NumberedStates.{numbered_next}}
use Rattle.lab_deps.proofs.values.Values.numbers.Goals as goal

pub loop-version-preserved : goal.loop-version-preserved
loop-version-preserved c f heeds =
    let vs = c.args.versions.now in
    let i = c.loop-version.version-index in
    let v = c.version-item.result in
    let numbers = c.loop-version.numbers.items in
    let exact = c.args.self.now.exact in
    let before = c.args.before.now in
    let others = c.args.self.now.others.items in
    let answers = asked f before others in
    let rest = drop (i + 1) vs in
    let left : drop i vs ≡ v ∷ rest = drop_more vs i v c.loop-version-test.true ∙ ap (λ u. u ∷ rest) (sym c.version-item.is) in
    let so_far = subst (λ us. classes_of answers numbers ++ asked f before (states us) ≡ asked f before (states vs)) left (c.loop-version.invariant f heeds) in
    let is = subst (λ xs. IsNumber exact before xs v.value c.in-Some.number) c.deref.ensures.value c.in-Some.ensures in
    ap (λ ns. classes_of answers ns ++ asked f before (states rest)) c.in_ok-push.ensures.items
    ∙ numbered_next exact before others numbers c.in-Some.number v rest (asked f before (states vs)) f heeds is so_far

pub returns : goal.returns
returns c f heeds =
    let vs = c.args.versions.now in
    let before = c.args.before.now in
    let classes = classes_of (asked f before c.args.self.now.others.items) c.loop-version.numbers.items in
    let none = drop_all c.loop-version.version-index vs c.loop-version-test.false in
    sym (append-nil classes) ∙ (sym (ap (λ us. classes ++ asked f before (states us)) none) ∙ c.loop-version.invariant f heeds)
