use Rattle.std.{proofs.Common.{◌∙◌, sym, ap, []}, specs.{FinMap.{entries, entries_sorted, get-entries}, Ordering.{nat_cmp}, Prelude.{reverse, slice_get, option_and_then, unwrap_or}}}
use Rattle.lab_history.{specs.{Index.{txn_row_cmp, numbers_from, written, placed}, Keyed.{value_at}, Version.{place_in}}, proofs.{TxnPlaces.{txn_found}, LastWrites.{last_found}, InstallerPlaces.{place_found}}}
use Rattle.lab_history.proofs.index.Index.of.Goals as goal

pub returns : goal.returns
returns c =
    let h = c.args.parts.now in
    let txns = c.as_slice-txns.ensures in
    record {
      numbers = λ n.
          ap (option_and_then (λ place. slice_get h.txns place)) (c.in_ok-numbers.ensures n ∙ ap (λ es. value_at nat_cmp es n) (c.in_ok-numbers_of.ensures ∙ ap (numbers_from 0) txns))
          ∙ txn_found n h.txns;
      last_writes = λ n row.
          c.in_ok-last_writes.ensures (n, row) ∙ ap (λ es. value_at txn_row_cmp es (n, row)) (c.in_ok-last_writes_of.ensures ∙ ap (λ ts. reverse (written ts)) txns)
          ∙ last_found n row h.txns c.requires.distinct;
      places = λ row n.
          c.in_ok-places.ensures (n, row) ∙ ap (λ es. value_at txn_row_cmp es (n, row)) (c.in_ok-places_of.ensures ∙ ap placed c.entries.ensures)
          ∙ place_found row n (entries h.installed) (entries_sorted h.installed) ∙ ap (λ o. place_in (unwrap_or o []) n) (sym (get-entries h.installed row));
    }
