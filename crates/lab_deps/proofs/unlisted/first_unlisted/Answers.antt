use Rattle.std.{proofs.Common.{rules, T, ◌∙◌, Some, sym, ap, subst}, specs.{Prelude.{◌&&◌, not, is_some, is_none}, FinMap.{get, entries, entries_sorted, is_sorted}}}
use Rattle.lab_table.{specs.Row.{row_cmp}, proofs.OneRow.{unmatched_listed}}
use Rattle.lab_deps.{specs.{Broken.{is_unlisted, same_state}, FirstOf.{first_value}}, proofs.Spans.{first_found, unlisted_within}}
use Rattle.lab_deps.proofs.unlisted.first_unlisted.Goals as goal

pub within-entries-requires : goal.within-entries-requires
within-entries-requires c = subst (λ es. T (is_sorted row_cmp es)) (sym (c.rows.ensures ∙ ap entries c.initial.ensures)) (entries_sorted c.args.history.now.initial)

pub returns : goal.returns
returns c =
    let op = c.args.op.now in
    c.first_matching.ensures (is_unlisted op) (λ row value b post. search rules)
    (λ row value off. ap (λ o. is_some o && (not (same_state (get op.rows row) o) && is_none (get op.view row))) (unmatched_listed op.statement row (Some value) off))
    ∙ first_found (is_unlisted op) c.within-entries.result.now
    ∙ unlisted_within op c.within-entries.result.now c.rows.result.now c.within-entries.ensures ∙ ap (first_value (is_unlisted op)) (c.rows.ensures ∙ ap entries c.initial.ensures)
