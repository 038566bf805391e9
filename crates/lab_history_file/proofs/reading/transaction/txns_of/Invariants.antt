use Rattle.std.proofs.Common.{◌≡◌, codes}
use Rattle.serde_json.specs.View.{view}
use Rattle.lab_history_file.{specs.Format.{at_key, txn_in, txns_in}, proofs.ItemsRead.{read_on}}
use Rattle.lab_history_file.proofs.reading.transaction.txns_of.Given as goal

abbrev pub invariant-loop-index : goal.invariant-loop-index
invariant-loop-index l = read_on (txn_in l.version) l.txns l.index l.items ≡ txns_in l.version (at_key (codes "transactions") (view l.json))
