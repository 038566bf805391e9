use Rattle.std.{proofs.Common.{◌≡◌, ◌||◌, length, ap, ◌∙◌, subst, arith}, specs.Prelude.{IfOk}}
use Rattle.lab_drawing.{specs.Forks.{is_fork, fork_of}, proofs.ForkForms.{of_four}}
use Rattle.lab_drawing.proofs.forks.is_long_fork.Goals as goal

pub returns-in-len4 : goal.returns-in-len4
returns-in-len4 c =
    let h = c.args.history.now in
    let walk = c.args.walk.now in
    let one = c.one-item.result in
    let two = c.two-item.result in
    let three = c.three-item.result in
    let four = c.four-item.result in
    let len : length walk ≡ 4 = omega (arith, c.in-len4.len_at_least, c.in-len4.len_below) in
    subst (λ b. IfOk c.are_fork.result (λ is_one. is_one ≡ b))
    (ap (λ f. is_fork h f || is_fork h c.fork_of-turned.result) c.fork_of-fork.ensures ∙ ap (λ f. is_fork h (fork_of one two three four) || is_fork h f) c.fork_of-turned.ensures
    ∙ of_four h walk one two three four len c.one-item.is c.two-item.is c.three-item.is c.four-item.is)
    c.are_fork.ensures
