use Rattle.std.proofs.Common.{ℤ, rules, ap, ◌∙◌}
use Rattle.lab_table.specs.{Row.{Row}, Statement.{rewritten}}
use Rattle.lab_history.specs.Version.{new_state}
use Rattle.lab_deps.specs.{Broken.{result_differs}, FirstOf.{first_value}}
use Rattle.lab_deps.proofs.miswritten.changed_otherwise.Goals as goal

pub returns : goal.returns
returns c =
    let op = c.args.op.now in
    let test = λ (row : Row) (value : ℤ). result_differs (rewritten op.statement value) (new_state op row) in
    c.first_entry.ensures test (λ row value b post. search rules) ∙ ap (first_value test) c.entries.ensures
