use Rattle.lab_engine.proofs.{Common.{ap, get, get-from_sorted, if_any, installed_by, refl, row_cmp, ◌∙◌}, KeptChains.{chains_sorted, chains_found}}
use Rattle.lab_history.specs.Installed.{Installed}
use Rattle.lab_engine.proofs.installs.installed_of.Goals as goal

pub new-requires : goal.new-requires
new-requires c =
    chains_sorted (λ chain. if_any (installed_by chain)) refl c.args.rows.now c.by_row.result.now.entries c.by_row.ensures c.in_ok-all_installers.ensures.ordered
    c.in_ok-all_installers.field-0.items c.in_ok-all_installers.ensures.made

pub returns : goal.returns
returns c = λ row.
    ap (λ (m : Installed). get m row) c.new.ensures
    ∙ get-from_sorted row_cmp c.in_ok-all_installers.field-0.items row (chains_sorted (λ chain. if_any (installed_by chain)) refl c.args.rows.now c.by_row.result.now.entries c.by_row.ensures
    c.in_ok-all_installers.ensures.ordered c.in_ok-all_installers.field-0.items c.in_ok-all_installers.ensures.made)
    ∙ chains_found (λ chain. if_any (installed_by chain)) refl c.args.rows.now c.by_row.result.now.entries c.by_row.ensures c.in_ok-all_installers.ensures.ordered
    c.in_ok-all_installers.field-0.items c.in_ok-all_installers.ensures.made row
