-- The fields of a transaction hold its members.
use Rattle.std.proofs.Common.{◌≡◌, ℕ, List, [], ◌∷◌, Some, None, codes, refl, sym, ap, subst, ◌∙◌, arith}
use Rattle.json.specs.Token.{Token}
use Rattle.serde_json.specs.Data.{Members, no_members, string, object, put}
use Rattle.lab_history.specs.declared.{operation.Op.{Op}, transaction.{Outcome.{Outcome}, Txn.{Txn}}}
use Rattle.lab_history_file.specs.{Fields.{HoldTxn, IsTxnNo, IsOutcome}, FileOf.{IsListOf, IsOperation, IsTransaction, outcome_text}, Gathered.{TakesMember, TakesObject}, Keys.{txn_keys}, Reads.{WholeTo}, Slots.{slots, IsSlot}, Spelled.{Spelled}}
use Rattle.lab_history_file.specs.declared.{file_version.FileVersion.{FileVersion}, reading.stream.transaction.TxnFields.{TxnFields}}
use Rattle.lab_history_file.proofs.{Slots.{put_filled, slot_full}, TokensSpell.{string_spelled, deeper}}

module _ (version : FileVersion) (old new : List Token) (before after : TxnFields) where
  pub no_taken : (n : ℕ) → WholeTo 1000000 old new n → after.no ≡ Some n → after.ops ≡ before.ops → after.outcome ≡ before.outcome → TakesMember 5 (HoldTxn version) (codes "no") old new before after
  no_taken n s own ops outcome = (
    s.tree,
    deeper 0 5 old new s.tree (omega arith) s.spells,
    λ ms h. (
      Some s.tree,
      h.1,
      h.2,
      ap (put (codes "no") s.tree) h.3 ∙ put_filled (codes "no") txn_keys 0 s.tree (h.0 ∷ h.1 ∷ h.2 ∷ []) refl (refl, refl, (refl, (refl, tt))),
      subst (IsSlot IsTxnNo (Some s.tree)) (sym own) s.stands,
      subst (IsSlot (IsListOf (IsOperation version)) h.1) (sym ops) h.5,
      subst (IsSlot IsOutcome h.2) (sym outcome) h.6,
    ),
  )

  pub ops_taken : (list : List Op) → Spelled 5 (IsListOf (IsOperation version)) old new list → after.no ≡ before.no → after.ops ≡ Some list → after.outcome ≡ before.outcome → TakesMember 5 (HoldTxn version) (codes "ops") old new before after
  ops_taken list s own ops outcome = (
    s.tree,
    s.spells,
    λ ms h. (
      h.0,
      Some s.tree,
      h.2,
      ap (put (codes "ops") s.tree) h.3 ∙ put_filled (codes "ops") txn_keys 1 s.tree (h.0 ∷ h.1 ∷ h.2 ∷ []) refl (refl, (refl, refl, (refl, tt))),
      subst (IsSlot IsTxnNo h.0) (sym own) h.4,
      subst (IsSlot (IsListOf (IsOperation version)) (Some s.tree)) (sym ops) s.stands,
      subst (IsSlot IsOutcome h.2) (sym outcome) h.6,
    ),
  )

  pub outcome_taken : (text : List ℕ) (out : Outcome) → old ≡ Token.string text ∷ new → text ≡ outcome_text out → after.no ≡ before.no → after.ops ≡ before.ops → after.outcome ≡ Some out
      → TakesMember 5 (HoldTxn version) (codes "outcome") old new before after
  outcome_taken text out is named own ops outcome =
      let d = string text in (
        d,
        deeper 0 5 old new d (omega arith) (string_spelled old new text is),
        λ ms h. (
          h.0,
          h.1,
          Some d,
          ap (put (codes "outcome") d) h.3 ∙ put_filled (codes "outcome") txn_keys 2 d (h.0 ∷ h.1 ∷ h.2 ∷ []) refl (refl, (refl, (refl, refl, tt))),
          subst (IsSlot IsTxnNo h.0) (sym own) h.4,
          subst (IsSlot (IsListOf (IsOperation version)) h.1) (sym ops) h.5,
          subst (IsSlot IsOutcome (Some d)) (sym outcome) (ap string named),
        ),
      )

txn_held : (version : FileVersion) (ms : Members) (fields : TxnFields) (txn : Txn) → HoldTxn version ms fields → fields.no ≡ Some txn.no → fields.ops ≡ Some txn.ops → fields.outcome ≡ Some txn.outcome → IsTransaction version (object ms) txn
txn_held version ms fields txn h own ops outcome =
    let n = slot_full IsTxnNo h.0 fields.no txn.no h.4 own in
    let o = slot_full (IsListOf (IsOperation version)) h.1 fields.ops txn.ops h.5 ops in
    let e = slot_full IsOutcome h.2 fields.outcome txn.outcome h.6 outcome in
    let full : slots txn_keys (h.0 ∷ h.1 ∷ h.2 ∷ []) ≡ slots txn_keys (Some n.0 ∷ Some o.0 ∷ Some (string (outcome_text txn.outcome)) ∷ []) =
    λ i. slots txn_keys (n.1 i ∷ o.1 i ∷ (e.1 ∙ ap (λ d. Some d) e.2) i ∷ []) in
    (n.0, o.0, ap object (h.3 ∙ full), n.2, o.2)

none_held : (version : FileVersion) (fields : TxnFields) → fields.no ≡ None → fields.ops ≡ None → fields.outcome ≡ None → HoldTxn version no_members fields
none_held version fields own ops outcome = (
  None,
  None,
  None,
  refl,
  subst (IsSlot IsTxnNo None) (sym own) tt,
  subst (IsSlot (IsListOf (IsOperation version)) None) (sym ops) tt,
  subst (IsSlot IsOutcome None) (sym outcome) tt,
)

pub txn_taken : (version : FileVersion) (old new : List Token) (before after : TxnFields) (txn : Txn) → TakesObject 5 (HoldTxn version) old new before after → before.no ≡ None → before.ops ≡ None → before.outcome ≡ None
    → after.no ≡ Some txn.no → after.ops ≡ Some txn.ops → after.outcome ≡ Some txn.outcome → Spelled 6 (IsTransaction version) old new txn
txn_taken version old new before after txn t no_own no_ops no_outcome own ops outcome = record {
  tree = object t.0;
  spells = t.1;
  stands = txn_held version t.0 after txn (t.2 (none_held version before no_own no_ops no_outcome)) own ops outcome;
}
