use Rattle.std.proofs.{Common.{◌≤◌, map, length, sym, ap, subst, ◌∙◌}, lemmas.List.{drop_all}}
use Rattle.std.specs.FinMap as finite
use Rattle.indexmap.specs.IndexMap.{insert_all}
use Rattle.lab_table.specs.Row.{row_test}
use Rattle.lab_deps.{specs.EdgesByRow.{with_versions}, proofs.NumberedRows.{rows_numbered}}
use Rattle.lab_deps.proofs.rows.versions_of_rows.Goals as goal

pub returns : goal.returns
returns c =
    let h = c.args.history.now in
    let past : length (finite.entries h.installed) ≤ c.loop-row.row-index =
    subst (λ es. length es ≤ c.loop-row.row-index) (c.entries-row-items.ensures ∙ ap finite.entries c.installed.ensures) c.loop-row-test.false in
    sym (ap (λ es. insert_all row_test c.loop-row.rows.entries (map (with_versions h) es)) (drop_all c.loop-row.row-index (finite.entries h.installed) past))
    ∙ c.loop-row.invariant ∙ rows_numbered h
