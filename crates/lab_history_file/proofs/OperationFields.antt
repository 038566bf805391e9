-- The fields of an operation hold its members.
use Rattle.std.{proofs.Common.{◌≡◌, ℕ, ℤ, List, [], ◌∷◌, T, Option, Some, None, IfSome, Result, Ok, Err, IfOk, codes, refl, sym, ap, subst, ◌∙◌, arith}, specs.{FinMap.{FinMap}}}
use Rattle.std.specs.FinMap as finite
use Rattle.std.specs.Result.{result_ok}
use Rattle.json.specs.Token.{Token}
use Rattle.serde_json.specs.Data.{Data, Members, no_members, string, object, put}
use Rattle.lab_table.specs.{Row.{Row, row_cmp}, declared.statement.Statement.{Statement}}
use Rattle.lab_history.{specs.{VersionName.{new_states}, declared.operation.{Op.{Op}, State.{State}, VersionName.{VersionName}}}, proofs.NewStates.{new_states_sorted}}
use Rattle.lab_history_file.specs.{Fields.{HoldOp, IsStatement}, FileOf.{IsListOf, IsMapOf, IsPair, IsValue, IsState, IsVersion, SpellsIn, IsOperation}, Gathered.{TakesMember, TakesObject}, Keys.{op_keys}, Reads.{IsWritten}, Slots.{slots, IsSlot}, Spelled.{Spelled}}
use Rattle.lab_history_file.specs.declared.{file_version.FileVersion.{FileVersion}, reading.stream.operation.OpFields.{OpFields}}
use Rattle.lab_history_file.proofs.{PlainWrites.{plain_writes}, Slots.{put_filled, slot_full}, TokensSpell.{string_spelled, deeper}}

-- ---- lists as maps

map_of : {X : Type 0} (Is : Data → Row × X → Type 0) (d : Data) (entries : List (Row × X)) (m : FinMap row_cmp X) → IsListOf Is d entries → T (finite.is_sorted row_cmp entries) → m ≡ finite.from_sorted entries → IsMapOf Is d m
map_of Is d entries m is rise same = subst (IsListOf Is d) (sym (ap finite.entries same ∙ finite.entries-from_sorted row_cmp entries rise)) is

-- a list that was read, whose rows rise, is a map
pub map_spelled : {X : Type 0} (Is : Data → Row × X → Type 0) (levels : ℕ) (old new : List Token) (entries : List (Row × X)) (m : FinMap row_cmp X) → Spelled levels (IsListOf Is) old new entries → T (finite.is_sorted row_cmp entries)
    → m ≡ finite.from_sorted entries → Spelled levels (IsMapOf Is) old new m
map_spelled Is levels old new entries m s rise same = record { tree = s.tree; spells = s.spells; stands = map_of Is s.tree entries m s.stands rise same }

pub writes_spelled : (version : FileVersion) (levels : ℕ) (old new : List Token) (ws : List (Row × State)) (m : FinMap row_cmp (Option ℤ)) → Spelled levels (IsListOf (IsPair version IsWritten)) old new ws → T (finite.is_sorted row_cmp ws)
    → m ≡ finite.from_sorted (new_states ws) → Spelled levels (IsMapOf (IsPair version IsState)) old new m
writes_spelled version levels old new ws m s rise same = record {
  tree = s.tree;
  spells = s.spells;
  stands = map_of (IsPair version IsState) s.tree (new_states ws) m (s.stands.0, s.stands.1, plain_writes version s.stands.0 ws s.stands.2) (subst T (sym (new_states_sorted ws)) rise) same;
}

-- ---- members

module _ (version : FileVersion) (old new : List Token) (before after : OpFields) where
  pub rows_taken : (m : FinMap row_cmp ℤ) → Spelled 3 (IsMapOf (IsPair version IsValue)) old new m → after.rows ≡ Some m → after.statement ≡ before.statement → after.view ≡ before.view → after.writes ≡ before.writes
      → TakesMember 3 (HoldOp version) (codes "rows") old new before after
  rows_taken m s rows statement view writes = (
    s.tree,
    s.spells,
    λ ms h. (
      Some s.tree,
      h.1,
      h.2,
      h.3,
      ap (put (codes "rows") s.tree) h.4 ∙ put_filled (codes "rows") op_keys 0 s.tree (h.0 ∷ h.1 ∷ h.2 ∷ h.3 ∷ []) refl (refl, refl, (refl, (refl, (refl, tt)))),
      subst (IsSlot (IsMapOf (IsPair version IsValue)) (Some s.tree)) (sym rows) s.stands,
      subst (IsSlot (IsStatement version) h.1) (sym statement) h.6,
      subst (IsSlot (IsMapOf (IsVersion version)) h.2) (sym view) h.7,
      subst (IsSlot (IsMapOf (IsPair version IsState)) h.3) (sym writes) h.8,
    ),
  )

  pub statement_taken : (text : List ℕ) (s : Statement) → old ≡ Token.string text ∷ new → SpellsIn version text s → after.rows ≡ before.rows → after.statement ≡ Some s → after.view ≡ before.view → after.writes ≡ before.writes
      → TakesMember 3 (HoldOp version) (codes "statement") old new before after
  statement_taken text s is spells rows statement view writes =
      let d = string text in (
        d,
        deeper 0 3 old new d (omega arith) (string_spelled old new text is),
        λ ms h. (
          h.0,
          Some d,
          h.2,
          h.3,
          ap (put (codes "statement") d) h.4 ∙ put_filled (codes "statement") op_keys 1 d (h.0 ∷ h.1 ∷ h.2 ∷ h.3 ∷ []) refl (refl, (refl, refl, (refl, (refl, tt)))),
          subst (IsSlot (IsMapOf (IsPair version IsValue)) h.0) (sym rows) h.5,
          subst (IsSlot (IsStatement version) (Some d)) (sym statement) (text, refl, spells),
          subst (IsSlot (IsMapOf (IsVersion version)) h.2) (sym view) h.7,
          subst (IsSlot (IsMapOf (IsPair version IsState)) h.3) (sym writes) h.8,
        ),
      )

  pub view_taken : (m : FinMap row_cmp VersionName) → Spelled 3 (IsMapOf (IsVersion version)) old new m → after.rows ≡ before.rows → after.statement ≡ before.statement → after.view ≡ Some m → after.writes ≡ before.writes
      → TakesMember 3 (HoldOp version) (codes "view") old new before after
  view_taken m s rows statement view writes = (
    s.tree,
    s.spells,
    λ ms h. (
      h.0,
      h.1,
      Some s.tree,
      h.3,
      ap (put (codes "view") s.tree) h.4 ∙ put_filled (codes "view") op_keys 2 s.tree (h.0 ∷ h.1 ∷ h.2 ∷ h.3 ∷ []) refl (refl, (refl, (refl, refl, (refl, tt)))),
      subst (IsSlot (IsMapOf (IsPair version IsValue)) h.0) (sym rows) h.5,
      subst (IsSlot (IsStatement version) h.1) (sym statement) h.6,
      subst (IsSlot (IsMapOf (IsVersion version)) (Some s.tree)) (sym view) s.stands,
      subst (IsSlot (IsMapOf (IsPair version IsState)) h.3) (sym writes) h.8,
    ),
  )

  pub writes_taken : (m : FinMap row_cmp (Option ℤ)) → Spelled 3 (IsMapOf (IsPair version IsState)) old new m → after.rows ≡ before.rows → after.statement ≡ before.statement → after.view ≡ before.view → after.writes ≡ Some m
      → TakesMember 3 (HoldOp version) (codes "writes") old new before after
  writes_taken m s rows statement view writes = (
    s.tree,
    s.spells,
    λ ms h. (
      h.0,
      h.1,
      h.2,
      Some s.tree,
      ap (put (codes "writes") s.tree) h.4 ∙ put_filled (codes "writes") op_keys 3 s.tree (h.0 ∷ h.1 ∷ h.2 ∷ h.3 ∷ []) refl (refl, (refl, (refl, (refl, refl, tt)))),
      subst (IsSlot (IsMapOf (IsPair version IsValue)) h.0) (sym rows) h.5,
      subst (IsSlot (IsStatement version) h.1) (sym statement) h.6,
      subst (IsSlot (IsMapOf (IsVersion version)) h.2) (sym view) h.7,
      subst (IsSlot (IsMapOf (IsPair version IsState)) (Some s.tree)) (sym writes) s.stands,
    ),
  )

-- ---- the whole

op_held : (version : FileVersion) (ms : Members) (fields : OpFields) (op : Op) → HoldOp version ms fields → fields.rows ≡ Some op.rows → fields.statement ≡ Some op.statement → fields.view ≡ Some op.view → fields.writes ≡ Some op.writes
    → IsOperation version (object ms) op
op_held version ms fields op h rows statement view writes =
    let r = slot_full (IsMapOf (IsPair version IsValue)) h.0 fields.rows op.rows h.5 rows in
    let s = slot_full (IsStatement version) h.1 fields.statement op.statement h.6 statement in
    let v = slot_full (IsMapOf (IsVersion version)) h.2 fields.view op.view h.7 view in
    let w = slot_full (IsMapOf (IsPair version IsState)) h.3 fields.writes op.writes h.8 writes in
    let full : slots op_keys (h.0 ∷ h.1 ∷ h.2 ∷ h.3 ∷ []) ≡ slots op_keys (Some r.0 ∷ Some (string s.2.0) ∷ Some v.0 ∷ Some w.0 ∷ []) =
    λ i. slots op_keys (r.1 i ∷ (s.1 ∙ ap (λ d. Some d) s.2.1) i ∷ v.1 i ∷ w.1 i ∷ []) in
    (r.0, v.0, w.0, s.2.0, ap object (h.4 ∙ full), s.2.2, v.2, r.2, w.2)

none_held : (version : FileVersion) (fields : OpFields) → fields.rows ≡ None → fields.statement ≡ None → fields.view ≡ None → fields.writes ≡ None → HoldOp version no_members fields
none_held version fields rows statement view writes = (
  None,
  None,
  None,
  None,
  refl,
  subst (IsSlot (IsMapOf (IsPair version IsValue)) None) (sym rows) tt,
  subst (IsSlot (IsStatement version) None) (sym statement) tt,
  subst (IsSlot (IsMapOf (IsVersion version)) None) (sym view) tt,
  subst (IsSlot (IsMapOf (IsPair version IsState)) None) (sym writes) tt,
)

pub op_taken : (version : FileVersion) (old new : List Token) (before after : OpFields) (op : Op) → TakesObject 3 (HoldOp version) old new before after
    → before.rows ≡ None → before.statement ≡ None → before.view ≡ None → before.writes ≡ None
    → after.rows ≡ Some op.rows → after.statement ≡ Some op.statement → after.view ≡ Some op.view → after.writes ≡ Some op.writes → Spelled 4 (IsOperation version) old new op
op_taken version old new before after op t no_rows no_statement no_view no_writes rows statement view writes = record {
  tree = object t.0;
  spells = t.1;
  stands = op_held version t.0 after op (t.2 (none_held version before no_rows no_statement no_view no_writes)) rows statement view writes;
}

pub op_ended : {E : Type 0} (version : FileVersion) (old new : List Token) (before after : OpFields) (o : Option Op) (r : Result Op E) → TakesObject 3 (HoldOp version) old new before after
    → before.rows ≡ None → before.statement ≡ None → before.view ≡ None → before.writes ≡ None
    → IfSome o (λ op. (after.rows ≡ Some op.rows) × (after.statement ≡ Some op.statement) × (after.view ≡ Some op.view) × (after.writes ≡ Some op.writes)) → o ≡ result_ok r → IfOk r (λ op. Spelled 4 (IsOperation version) old new op)
op_ended version old new before after o (Err e) t no_rows no_statement no_view no_writes found is = tt
op_ended version old new before after o (Ok op) t no_rows no_statement no_view no_writes found is =
    let all : (after.rows ≡ Some op.rows) × (after.statement ≡ Some op.statement) × (after.view ≡ Some op.view) × (after.writes ≡ Some op.writes) =
    subst (λ x. IfSome x (λ op. (after.rows ≡ Some op.rows) × (after.statement ≡ Some op.statement) × (after.view ≡ Some op.view) × (after.writes ≡ Some op.writes))) is found in
    op_taken version old new before after op t no_rows no_statement no_view no_writes all.0 all.1 all.2 all.3
