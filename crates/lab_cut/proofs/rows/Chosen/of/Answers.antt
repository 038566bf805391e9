use Rattle.std.{proofs.{Common.{◌≡◌, ◌∙◌, ◌+◌, ◌∷◌, ◌||◌, drop, sym, ap}, lemmas.List.{drop_more, drop_all}}, specs.{Prelude.{is_some}, List.{list_any}, FinMap.{get, get-empty}}}
use Rattle.lab_table.specs.Row.{row_cmp, row_eq}
use Rattle.lab_cut.{specs.Chosen.{has}, proofs.ChosenRows.{noted_alone, chosen_step}}
use Rattle.lab_cut.proofs.rows.Chosen.of.Goals as goal

pub loop-row-init : goal.loop-row-init
loop-row-init c = λ q.
    ap (λ m. is_some (get m q) || list_any (row_eq q) c.args.rows.now) c.new.ensures
    ∙ ap (λ o. is_some o || list_any (row_eq q) c.args.rows.now) (get-empty row_cmp q)

pub loop-row-preserved : goal.loop-row-preserved
loop-row-preserved c =
    let rows = c.args.rows.now in
    let i = c.loop-row.row-index in
    let e = c.row-item.result in
    let left : drop i rows ≡ e ∷ drop (i + 1) rows = drop_more rows i e c.loop-row-test.true ∙ ap (λ u. u ∷ drop (i + 1) rows) (sym c.row-item.is) in
    λ q. chosen_step q e c.loop-row.chosen.rows c.put.new.self tt (drop i rows) (drop (i + 1) rows) (list_any (row_eq q) rows) left c.in_ok-put.ensures.ok (c.loop-row.invariant q)

pub returns : goal.returns
returns c = λ q.
    sym (noted_alone (has c.loop-row.chosen q))
    ∙ sym (ap (λ rs. has c.loop-row.chosen q || list_any (row_eq q) rs) (drop_all c.loop-row.row-index c.args.rows.now c.loop-row-test.false))
    ∙ c.loop-row.invariant q
