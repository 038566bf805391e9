-- The faults of operations are true.
use Rattle.std.proofs.Common.{◌≡◌, ℕ, ◌+◌, ⊎_elim, Bool, true, false, List, Option, Some, None, is_some, option_and_then, option_map, Err, if◌then◌else◌, codes, refl, sym, ap, subst, ◌∙◌}
use Rattle.serde_json.specs.{Data.{Data}, Find.{as_str, at, as_object}}
use Rattle.lab_table.specs.declared.statement.Statement.{Statement}
use Rattle.lab_statement.specs.StatementText.{statement_in}
use Rattle.lab_history.{specs.{Faults.{required}, declared.{fault.FileFault.{FileFault}, path.Path.{Path}}}, proofs.Steps.{either_err, required_ok, required_err}}
use Rattle.lab_history_file.specs.Entries.{txn_in_number, value_in, state_in, values_in, writes_in, view_in}
use Rattle.lab_history_file.specs.FileOf.{SpellsIn}
use Rattle.lab_history_file.specs.FaultOf.{IsTrueIn}
use Rattle.lab_history_file.specs.ValueAt.{txn_at, operation_at}
use Rattle.lab_history_file.specs.Keys.{op_keys}
use Rattle.lab_history_file.specs.Format.{at_key, has_keys, keyed, only_in, spelled_in, op_in}
use Rattle.lab_history.specs.declared.fault.FileFault.TheVariants as fault
use Rattle.lab_history_file.specs.declared.file_version.FileVersion.{FileVersion}
use Rattle.lab_history.specs.declared.path.ListPlace.TheVariants as list
use Rattle.lab_history.specs.declared.path.Path.TheVariants as path
use Rattle.lab_history_file.proofs.{OperationsRead.{spells_are_read}, FaultsOfLists.{pairs_fault, view_fault}, ListWalks.{is_wrong}}

-- what isn't found failed the test
pub none_when : {A : Type 0} (b : Bool) (x : A) → (if b then Some x else None) ≡ None → b ≡ false
none_when true x e = absurd cc
none_when false x e = refl

-- an object of other keys
pub keyed_err : (place : Path) (keys : List (List ℕ)) (v : Data) (f : FileFault) → keyed place keys v ≡ Err f → (has_keys keys (as_object v) ≡ false) × (f ≡ fault.WrongFormat place)
keyed_err place keys v f e = let r = required_err place _ f e in (none_when (has_keys keys (as_object v)) tt r.0, r.1)

spelled_err : (by op : ℕ) (o : Option Statement) (f : FileFault) → spelled_in by op o ≡ Err f → (o ≡ None) × (f ≡ fault.BadStatement by op)
spelled_err by op None f e = (refl, cc)
spelled_err by op (Some s) f e = absurd cc

-- a text from which nothing is read spells no statement that a file of the version may have
unspelled : (version : FileVersion) (text : List ℕ) → option_and_then (only_in version) (statement_in text) ≡ None → (s : Statement) → SpellsIn version text s → ⊥
unspelled version text none s is = let some = spells_are_read version text s is in absurd cc

module _ (version : FileVersion) (d t o : Data) (txn n index : ℕ) (there : txn_at d txn ≡ Some t) (numbered : txn_in_number (at_key (codes "no") t) ≡ Some n) (here : at index (at_key (codes "ops") t) ≡ Some o)
    (f : FileFault) where
  at_operation : operation_at d txn index ≡ Some o
  at_operation = ap (option_and_then (λ u. at index (at_key (codes "ops") u))) there ∙ here

  spelled_fault : (text : List ℕ) → as_str (at_key (codes "statement") o) ≡ Some text → spelled_in n (index + 1) (option_and_then (only_in version) (statement_in text)) ≡ Err f → IsTrueIn version d f
  spelled_fault text is e =
      let bad = spelled_err n (index + 1) _ f e in
      subst (IsTrueIn version d) (sym bad.1) (txn, index, o, text, (t, there, numbered), refl, at_operation, is, unspelled version text bad.0)

  view_at : option_map (at_key (codes "view")) (operation_at d txn index) ≡ Some (at_key (codes "view") o)
  view_at = ap (option_map (at_key (codes "view"))) at_operation

  rows_at : option_map (at_key (codes "rows")) (operation_at d txn index) ≡ Some (at_key (codes "rows") o)
  rows_at = ap (option_map (at_key (codes "rows"))) at_operation

  writes_at : option_map (at_key (codes "writes")) (operation_at d txn index) ≡ Some (at_key (codes "writes") o)
  writes_at = ap (option_map (at_key (codes "writes"))) at_operation

  -- the fault of an operation is true
  pub op_fault : op_in version txn n index o ≡ Err f → IsTrueIn version d f
  op_fault e =
      ⊎_elim (λ wrong. let r = keyed_err _ op_keys o f wrong in is_wrong version d f (path.Operation txn index) o r.1 at_operation r.0) (λ keys.
      ⊎_elim (λ missing. let r = required_err (path.Statement txn index) _ f missing in
      is_wrong version d f (path.Statement txn index) (at_key (codes "statement") o) r.1 (ap (option_map (at_key (codes "statement"))) at_operation) (ap is_some r.0)) (λ text.
      ⊎_elim (spelled_fault text.0 (required_ok (path.Statement txn index) _ text.0 text.1)) (λ spelled.
      ⊎_elim (view_fault version d (at_key (codes "view") o) f (list.View txn index) view_at refl (λ v. refl)) (λ seen.
      ⊎_elim (pairs_fault version d (at_key (codes "rows") o) f value_in (list.Rows txn index) rows_at refl (λ v. refl)) (λ listed.
      ⊎_elim (pairs_fault version d (at_key (codes "writes") o) f state_in (list.Writes txn index) writes_at refl (λ v. refl)) (λ written. absurd cc)
      (either_err (writes_in version (list.Writes txn index) (at_key (codes "writes") o)) _ f listed.2))
      (either_err (values_in version (list.Rows txn index) (at_key (codes "rows") o)) _ f seen.2))
      (either_err (view_in version (list.View txn index) (at_key (codes "view") o)) _ f spelled.2))
      (either_err (spelled_in n (index + 1) (option_and_then (only_in version) (statement_in text.0))) _ f text.2))
      (either_err (required (path.Statement txn index) (as_str (at_key (codes "statement") o))) _ f keys.2))
      (either_err (keyed (path.Operation txn index) op_keys o) _ f e)
