use Rattle.std.proofs.Common.{◌≡◌, Some, subst}
use Rattle.lab_history_file.{specs.{Entries.{txn_in_number}, FileOf.{IsListOf}, Tree.{natural_tree, list_tree}}, proofs.WrittenMembers.{installed_stands}}
use Rattle.lab_history_file.proofs.writing.entries.Tuple2RowNameInstallersJsonText.put.Goals as goal

pub returns-clause-file : goal.returns-clause-file
returns-clause-file c = installed_stands c.args.self.now c.requires c.in_ok-put_key.ensures.read (subst (λ ns. IsListOf (λ e n. txn_in_number e ≡ Some n) (list_tree natural_tree ns) ns) c.as_slice.ensures c.in_ok-put_list.ensures.file)
