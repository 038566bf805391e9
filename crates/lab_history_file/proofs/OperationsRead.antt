-- Operations are read as what they stand for, and as nothing else.
use Rattle.std.proofs.Common.{◌≡◌, ℕ, ◌+◌, arith, List, [], ◌∷◌, length, Option, Some, None, option_and_then, Ok, if◌then◌else◌, refl, sym, ap, subst, ◌∙◌}
use Rattle.std.specs.FinMap as finite
use Rattle.serde_json.specs.{Data.{Data, Items, no_items, item}, Find.{as_str}}
use Rattle.lab_table.specs.declared.statement.Statement.{Statement}
use Rattle.lab_statement.{specs.StatementText.{statement_in}, proofs.StatementRead.{spells_in, in_spells}}
use Rattle.lab_history.{specs.{Faults.{required}, VersionName.{new_states}, declared.operation.Op.{Op}}, proofs.Steps.{both_ok, both_some, step_on, required_ok, when_found}}
use Rattle.lab_history_file.specs.Entries.{items_from, values_in, writes_in, view_in}
use Rattle.lab_history_file.specs.FileVersion.{may_have}
use Rattle.lab_history_file.specs.FileOf.{AreEach, SpellsIn, IsOperation}
use Rattle.lab_history_file.specs.Member.{count}
use Rattle.lab_history_file.specs.Keys.{op_keys, object_with}
use Rattle.lab_history_file.specs.Format.{keyed, only_in, spelled_in, op_in, op_behind}
use Rattle.lab_history_file.specs.declared.file_version.FileVersion.{FileVersion}
use Rattle.lab_history.specs.declared.path.ListPlace.TheVariants as list
use Rattle.lab_history.specs.declared.path.Path.TheVariants as path
use Rattle.lab_history_file.proofs.{JsonShapes.{string_of, keyed_shape}, ItemsRead.{each_read, each_is_read}, ListsRead.{map_again}, EntriesRead.{values_read, values_are_read, writes_read, writes_are_read, view_read, view_is_read}}

-- a text that spells a statement which a file of the version may have, is read so, and one that is read so does
pub spells_read : (version : FileVersion) (text : List ℕ) (s : Statement) → option_and_then (only_in version) (statement_in text) ≡ Some s → SpellsIn version text s
spells_read version text s e =
    let found = both_some (statement_in text) (only_in version) s e in
    let tested = when_found (may_have version found.0) found.0 s found.2 in
    subst (SpellsIn version text) tested.1 (record { spells = in_spells text found.0 found.1; may = tested.0 })

pub spells_are_read : (version : FileVersion) (text : List ℕ) (s : Statement) → SpellsIn version text s → option_and_then (only_in version) (statement_in text) ≡ Some s
spells_are_read version text s is =
    ap (option_and_then (only_in version)) (spells_in text s is.spells) ∙ ap (λ b. if b then Some s else None) is.may

-- a statement that stands there
spelled_ok : (by op : ℕ) (o : Option Statement) (s : Statement) → spelled_in by op o ≡ Ok s → o ≡ Some s
spelled_ok by op None s e = absurd cc
spelled_ok by op (Some t) s e = cc

module _ (version : FileVersion) (txn by index : ℕ) where
  op_parts : (rows statement view writes : Data) (op : Op) → op_in version txn by index (object_with op_keys (rows ∷ statement ∷ view ∷ writes ∷ [])) ≡ Ok op → IsOperation version (object_with op_keys (rows ∷ statement ∷ view ∷ writes ∷ [])) op
  op_parts rows statement view writes op e =
      let text = both_ok (required (path.Statement txn index) (as_str statement)) _ op e in
      let spelled = both_ok (spelled_in by (index + 1) (option_and_then (only_in version) (statement_in text.0))) _ op text.2 in
      let seen = both_ok (view_in version (list.View txn index) view) _ op spelled.2 in
      let listed = both_ok (values_in version (list.Rows txn index) rows) _ op seen.2 in
      let written = both_ok (writes_in version (list.Writes txn index) writes) _ op listed.2 in
      let made : Op = record { statement = spelled.0; view = finite.from_sorted seen.0; rows = finite.from_sorted listed.0; writes = finite.from_sorted (new_states written.0) } in
      let same : made ≡ op = cc in
      subst (IsOperation version (object_with op_keys (rows ∷ statement ∷ view ∷ writes ∷ []))) same (
        rows,
        view,
        writes,
        text.0,
        ap (λ s. object_with op_keys (rows ∷ s ∷ view ∷ writes ∷ [])) (string_of statement text.0 (required_ok (path.Statement txn index) (as_str statement) text.0 text.1)),
        spells_read version text.0 spelled.0 (spelled_ok by (index + 1) _ spelled.0 spelled.1),
        view_read version (list.View txn index) view seen.0 seen.1,
        values_read version (list.Rows txn index) rows listed.0 listed.1,
        writes_read version (list.Writes txn index) writes written.0 written.1,
      )

  -- an operation that is read is one
  pub op_read : (d : Data) (op : Op) → op_in version txn by index d ≡ Ok op → IsOperation version d op
  op_read d op e =
      let keys = both_ok (keyed (path.Operation txn index) op_keys d) _ op e in
      let shape = keyed_shape _ op_keys d keys.0 keys.1 in
      let is = shape.1.1.1.1 in
      subst (λ t. IsOperation version t op) (sym is) (op_parts shape.0 shape.1.0 shape.1.1.0 shape.1.1.1.0 op (subst (λ t. op_in version txn by index t ≡ Ok op) is e))

  -- and one that is, is read
  pub op_is_read : (d : Data) (op : Op) → IsOperation version d op → op_in version txn by index d ≡ Ok op
  op_is_read d op is =
      let written = writes_are_read version (list.Writes txn index) is.2 op.writes is.8 in
      let made : Op = record {
        statement = op.statement;
        view = finite.from_sorted (finite.entries op.view);
        rows = finite.from_sorted (finite.entries op.rows);
        writes = finite.from_sorted (new_states written.0);
      } in
      let writes : finite.from_sorted (new_states written.0) ≡ op.writes = ap finite.from_sorted written.2 ∙ map_again op.writes in
      let again : made ≡ op = λ i. record { statement = op.statement; view = map_again op.view i; rows = map_again op.rows i; writes = writes i } in
      ap (op_in version txn by index) is.4
      ∙ step_on _ (ap (spelled_in by (index + 1)) (spells_are_read version is.3 op.statement is.5))
      (step_on _ (view_is_read version (list.View txn index) is.1 op.view is.6)
      (step_on _ (values_are_read version (list.Rows txn index) is.0 op.rows is.7)
      (step_on _ written.1 (ap (λ (o : Op). Ok o) again))))

module _ (version : FileVersion) (txn by : ℕ) where
  pub ops_read : (ds : Items) (ops : List Op) → items_from (op_behind version txn by) [] 0 ds ≡ Ok ops → AreEach (IsOperation version) ds ops
  ops_read = each_read (op_behind version txn by) (IsOperation version) (λ before. op_read version txn by)

  pub ops_are_read : (ds : Items) (ops : List Op) → AreEach (IsOperation version) ds ops → items_from (op_behind version txn by) [] 0 ds ≡ Ok ops
  ops_are_read = each_is_read (op_behind version txn by) (IsOperation version) (λ before. op_is_read version txn by)

-- a list has as many items as what they stand for
pub each_count : {X : Type 0} (Is : Data → X → Type 0) (ds : Items) (xs : List X) → AreEach Is ds xs → count ds ≡ length xs
each_count Is no_items [] each = refl
each_count Is no_items (x ∷ xs) each = absurd each
each_count Is (item d ds) [] each = absurd each
each_count Is (item d ds) (x ∷ xs) each = let rest = each_count Is ds xs each.1 in omega (arith, rest)
