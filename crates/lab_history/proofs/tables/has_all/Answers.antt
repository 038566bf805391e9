use Rattle.std.{proofs.Common.{◌≡◌, sym, ap, ◌∙◌}, specs.Cmp.Lexicographic.{bytes_decides}}
use Rattle.lab_table.proofs.OneTable.{all_are}
use Rattle.lab_history.proofs.CountedTables.{one_met}
use Rattle.lab_history.proofs.tables.has_all.Goals as goal

pub returns-then-eq : goal.returns-then-eq
returns-then-eq g c = λ t.
    let es = c.args.entries.now in
    let first = c.in-Some.first.now in
    let last = c.in-Some-last.last.now in
    let table = c.first-in-Some.inside.0.0.table in
    let other = c.last-in-Some-last.inside.0.0.table in
    let of_first : first.0.table ≡ table = sym (ap (λ e. e.0.table) c.first-in-Some.view_is) in
    let of_last : last.0.table ≡ other = sym (ap (λ e. e.0.table) c.last-in-Some-last.view_is) in
    let one : table ≡ other = (bytes_decides table other).0 (sym c.eq.ensures ∙ c.if-eq.true) in
    one_met c.args.tables.now.names table (sym c.has.ensures ∙ t) es (all_are table es first last c.requires (sym c.in-Some.ensures.value) (sym c.in-Some-last.ensures.value) of_first (of_last ∙ sym one))
