use Rattle.std.{proofs.{Common.{◌≡◌, sym, ap, ◌∙◌, subst}, lemmas.Map.Views.{Contains-from_lookup}}, specs.{Prelude.{None, Some, Contains}, Map.{lookup}}}
use Rattle.lab_table.{specs.Row.{row_test}, proofs.Maps.{tested_same}}
use Rattle.lab_deps.{specs.{EdgesByRow.{rows_of}, Sinks.{Grows}, Numbering.{HasPlaces, FitsVersions, where_fits}}, proofs.{FittingRows.{fits_rows}, OpsOfOneRow.{found_there, found_nowhere}, Sinking.{grows_none, fits_more}}}
use Rattle.lab_deps.proofs.collect.add_op.Goals as goal

pub returns-in-None-get : goal.returns-in-None-get
returns-in-None-get g c =
    let none : lookup (row_test c.in-Some.row) (rows_of c.args.history.now) ≡ None = ap (lookup (row_test c.in-Some.row)) (sym c.requires) ∙ sym c.in-None-get.ensures.value in
    subst (Grows (where_fits (HasPlaces c.args.history.now) g.S.EdgeSink.handed) c.args.sink.now c.args.sink.now) (sym (found_nowhere c.args.history.now c.args.txn c.args.op.now c.in-Some.row c.in-Some.ensures none))
    (grows_none (where_fits (HasPlaces c.args.history.now) g.S.EdgeSink.handed) c.args.sink.now)

pub returns-in_ok-add_at_row-in-Some-get : goal.returns-in_ok-add_at_row-in-Some-get
returns-in_ok-add_at_row-in-Some-get g c =
    let h = c.args.history.now in
    let row = c.in-Some.row in
    let chain = c.in-Some-get.versions.now in
    let there : lookup (row_test row) (rows_of h) ≡ Some chain = ap (lookup (row_test row)) (sym c.requires) ∙ sym c.in-Some-get.ensures.value in
    let among : Contains (rows_of h) (row, chain) = Contains-from_lookup tested_same row chain (rows_of h) there in
    let is = sym (found_there h c.args.txn c.args.op.now row c.in-Some.ensures chain there) in
    subst (Grows (where_fits (HasPlaces h) g.S.EdgeSink.handed) c.args.sink.now c.add_at_row.new.sink) is
    (fits_more g.S.EdgeSink.handed (FitsVersions chain.items) (HasPlaces h) (λ ps has. fits_rows h ps has row chain among) c.args.sink.now c.add_at_row.new.sink _ c.in_ok-add_at_row-in-Some-get.ensures)
