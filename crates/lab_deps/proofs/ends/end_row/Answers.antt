use Rattle.std.{proofs.Common.{◌≡◌, rules, sym, ap, ◌∙◌, subst}, specs.FinMap.{entries}}
use Rattle.lab_deps.{specs.{Soundness.{EndsOther}, FirstOf.{IsLeastRow, first_entry, least}, RowTests.{ends_other}}, proofs.EndStates.{end_least}}
use Rattle.lab_deps.proofs.ends.end_row.Goals as goal

pub returns : goal.returns
returns c =
    let h = c.args.history.now in
    let test = ends_other h in
    let end : c.first_row-end.result ≡ first_entry test (entries h.end_table) = c.first_row-end.ensures test (λ row b post. search rules) ∙ ap (first_entry test) (c.rows.ensures ∙ ap entries c.end_table.ensures) in
    let initial : c.first_row-initial.result ≡ first_entry test (entries h.initial) = c.first_row-initial.ensures test (λ row b post. search rules) ∙ ap (first_entry test) (c.rows-2.ensures ∙ ap entries c.initial.ensures) in
    let installed : c.first_row-installed.result ≡ first_entry test (entries h.installed) = c.first_row-installed.ensures test (λ row b post. search rules) ∙ ap (first_entry test) (c.entries.ensures ∙ ap entries c.installed.ensures) in
    let same : c.least-2.result ≡ least (first_entry test (entries h.end_table)) (least (first_entry test (entries h.initial)) (first_entry test (entries h.installed))) = cc in
    subst (IsLeastRow (EndsOther h)) (sym same) (end_least h)
