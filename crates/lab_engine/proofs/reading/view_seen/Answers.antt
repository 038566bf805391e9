use Rattle.lab_engine.proofs.{Common.{ap, get, ◌∙◌}, Overlaid.{names_sorted, names_found}}
use Rattle.lab_engine.proofs.reading.view_seen.Goals as goal

pub new-requires : goal.new-requires
new-requires c =
    names_sorted c.args.asker.now c.by_row-rows.result.now.entries c.by_row-rows.ensures c.in_ok-names.ensures.ordered c.in_ok-names.names.items c.in_ok-names.ensures.made

pub returns : goal.returns
returns c = λ row.
    ap (λ m. get m row) c.new.ensures
    ∙ names_found c.args.asker.now c.by_row-rows.result.now.entries c.by_row-rows.ensures c.in_ok-names.ensures.ordered c.in_ok-names.names.items c.in_ok-names.ensures.made row
