use Rattle.std.{proofs.Common.{◌≡◌, None, rules, sym, ap, ◌∙◌, subst}, specs.FinMap.{entries}}
use Rattle.lab_deps.{specs.{Soundness.{InstallsOther}, FirstOf.{IsLeastRow, first_entry, least, least_of}, RowTests.{is_wrong, missing_in_txn}}, proofs.InstallPlaces.{install_least}}
use Rattle.lab_deps.proofs.installs.install_row.Goals as goal

pub returns : goal.returns
returns c =
    let h = c.args.history.now in
    let misplaced : c.first_row-misplaced.result ≡ first_entry (is_wrong h) (entries h.installed) = c.first_row-misplaced.ensures (is_wrong h) (λ row b post. search rules) ∙ ap (first_entry (is_wrong h)) (c.entries.ensures ∙ ap entries c.installed.ensures) in
    let same : c.least.result ≡ least (first_entry (is_wrong h) (entries h.installed)) (least_of (λ t. missing_in_txn h t.no) None h.txns) = cc in
    subst (IsLeastRow (InstallsOther h)) (sym same) (install_least h)
