use Rattle.std.proofs.Common.{rules, ap, ◌∙◌}
use Rattle.lab_deps.specs.{Broken.{lists_other}, FirstOf.{first_value}}
use Rattle.lab_deps.proofs.mislisted.seen_otherwise.Goals as goal

pub returns : goal.returns
returns c =
    let test = lists_other c.args.history.now c.args.op.now in
    c.first_entry.ensures test (λ row seen b post. search rules) ∙ ap (first_value test) c.entries.ensures
