use Rattle.std.proofs.Common.{rules, ap, ◌∙◌}
use Rattle.lab_deps.specs.{Broken.{is_extra}, FirstOf.{first_value}}
use Rattle.lab_deps.proofs.mislisted.extra_row.Goals as goal

pub returns : goal.returns
returns c =
    let test = is_extra c.args.history.now c.args.op.now in
    c.first_entry.ensures test (λ row value b post. search rules) ∙ ap (first_value test) c.entries.ensures
