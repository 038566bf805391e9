use Rattle.std.{proofs.Common.{◌∙◌, sym, ap}, specs.Prelude.{option_map}}
use Rattle.lab_table.specs.Row.{numbered}
use Rattle.lab_deps.proofs.Beyond.{beyond}
use Rattle.lab_deps.proofs.near.entry_within.Goals as goal

pub returns-then-is_behind : goal.returns-then-is_behind
returns-then-is_behind g c =
    let row = numbered c.args.table c.args.number in
    sym (ap (option_map (λ value. (row, value)))
    (beyond row c.args.entries.now c.in-Some.last.now c.requires (sym c.in-Some.ensures.value) (sym c.is_behind.ensures ∙ c.if-is_behind.true)))
