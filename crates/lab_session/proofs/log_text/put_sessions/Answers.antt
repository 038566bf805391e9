use Rattle.std.proofs.{Common.{◌≡◌, ◌∷◌, ◌++◌, [], ap, sym, ◌∙◌, rules, drop, map}, lemmas.List.{drop_all}}
use Rattle.lab_printing.{specs.Printed.{joined}, proofs.Joined.{all_joined, followed}}
use Rattle.lab_session.specs.LogText.{session_text}
use Rattle.lab_session.proofs.log_text.put_sessions.Goals as goal

pub returns : goal.returns
returns c =
    let first = c.in-Some.first.now in
    let rest = c.in-Some.rest.now in
    let start = c.args.out.now.items in
    let whole : c.args.sessions.now ≡ first ∷ rest = c.in-Some.ensures.cases.0 in
    let none : map session_text (drop c.loop-session.session-index rest) ≡ [] = ap (map session_text) (drop_all c.loop-session.session-index rest c.loop-session-test.false) in
    let put : c.put_session.new.out.items ≡ start ++ session_text first = search rules in
    all_joined start _ (session_text first) (map session_text rest) _ none (c.loop-session.invariant ∙ ap (λ text. text ++ followed (map session_text rest)) put)
    ∙ ap (λ sessions. start ++ joined (map session_text sessions)) (sym whole)
