use Rattle.std.proofs.Common.{◌++◌, sym, ap, ◌∙◌, append-nil, drop}
use Rattle.lab_explain.proofs.Capped.{none_first}
use Rattle.lab_explain.proofs.lines.put_first_lines.Goals as goal

pub returns-then-left-eq0 : goal.returns-then-left-eq0
returns-then-left-eq0 c =
    let none = none_first c.loop-byte.left (drop c.loop-byte.byte-index c.args.text.now) c.if-left-eq0.true in
    sym (append-nil c.loop-byte.out.items) ∙ ap (λ ys. c.loop-byte.out.items ++ ys) (sym none) ∙ c.loop-byte.invariant
