-- The fields of the whole hold its members.
use Rattle.std.{proofs.Common.{◌≡◌, ℕ, ℤ, ◌≤◌, Bool, true, false, List, [], ◌∷◌, length, Option, Some, None, IfSome, Result, Ok, Err, IfOk, codes, refl, sym, ap, subst, ◌∙◌, arith}, specs.{FinMap.{FinMap}, Prelude.{IsUtf8}}}
use Rattle.std.specs.Result.{result_ok}
use Rattle.json.specs.{Token.{Token}, Lex.{tokens}}
use Rattle.serde_json.specs.Data.{Data, Members, no_members, string, object, put, unsigned}
use Rattle.lab_table.specs.Row.{row_cmp}
use Rattle.lab_history.specs.{History.{History}, declared.transaction.Txn.{Txn}}
use Rattle.lab_history_file.specs.{Behind.{AllStand, Stands}, Fields.{HoldRoot, IsFormat, IsNumberOf, IsMark, AreTransactions}, FileOf.{IsListOf, IsMapOf, IsPair, IsValue, IsInstalled, IsTransaction, HoldsIn}, FileVersion.{version_number}, Format.{parts_in}, Gathered.{TakesMember, TakesObject}, Keys.{root_keys}, Numbers.{IsWhole}, Reads.{PartsIn}, Slots.{slots, IsSlot}, Spelled.{Spelled}}
use Rattle.lab_history_file.specs.declared.{file_version.FileVersion.{FileVersion}, reading.stream.RootFields.{RootFields}}
use Rattle.lab_history_file.proofs.{PartsRead.{parts_are_read}, Slots.{put_filled, slot_full}, TokensSpell.{number_spelled, string_spelled, deeper, text_spelled}}

module _ (version : FileVersion) (old new : List Token) (before after : RootFields) where
  pub end_taken : (m : FinMap row_cmp ℤ) → Spelled 3 (IsMapOf (IsPair version IsValue)) old new m
      → after.end ≡ Some m → after.has_format ≡ before.has_format → after.initial ≡ before.initial → after.installed ≡ before.installed → after.txns ≡ before.txns → after.has_version ≡ before.has_version
      → TakesMember 7 (HoldRoot version) (codes "end") old new before after
  end_taken m s end format initial installed transactions number = (
    s.tree,
    deeper 3 7 old new s.tree (omega arith) s.spells,
    λ ms h. (
      Some s.tree,
      h.1,
      h.2,
      h.3,
      h.4,
      h.5,
      ap (put (codes "end") s.tree) h.6 ∙ put_filled (codes "end") root_keys 0 s.tree (h.0 ∷ h.1 ∷ h.2 ∷ h.3 ∷ h.4 ∷ h.5 ∷ []) refl (refl, refl, (refl, (refl, (refl, (refl, (refl, tt)))))),
      subst (IsSlot (IsMapOf (IsPair version IsValue)) (Some s.tree)) (sym end) s.stands,
      subst (IsMark IsFormat h.1) (sym format) h.8,
      subst (IsSlot (IsMapOf (IsPair version IsValue)) h.2) (sym initial) h.9,
      subst (IsSlot (IsMapOf (IsInstalled version)) h.3) (sym installed) h.10,
      subst (IsSlot (AreTransactions version) h.4) (sym transactions) h.11,
      subst (IsMark (IsNumberOf version) h.5) (sym number) h.12,
    ),
  )

  pub format_taken : (text : List ℕ) → old ≡ Token.string text ∷ new → text ≡ codes "hermitage-history"
      → after.end ≡ before.end → after.has_format ≡ true → after.initial ≡ before.initial → after.installed ≡ before.installed → after.txns ≡ before.txns → after.has_version ≡ before.has_version
      → TakesMember 7 (HoldRoot version) (codes "format") old new before after
  format_taken text is named end format initial installed transactions number = (
    (string text),
    deeper 0 7 old new (string text) (omega arith) (string_spelled old new text is),
    λ ms h. (
      h.0,
      Some (string text),
      h.2,
      h.3,
      h.4,
      h.5,
      ap (put (codes "format") (string text)) h.6 ∙ put_filled (codes "format") root_keys 1 (string text) (h.0 ∷ h.1 ∷ h.2 ∷ h.3 ∷ h.4 ∷ h.5 ∷ []) refl (refl, (refl, refl, (refl, (refl, (refl, (refl, tt)))))),
      subst (IsSlot (IsMapOf (IsPair version IsValue)) h.0) (sym end) h.7,
      subst (IsMark IsFormat (Some (string text))) (sym format) (ap string named),
      subst (IsSlot (IsMapOf (IsPair version IsValue)) h.2) (sym initial) h.9,
      subst (IsSlot (IsMapOf (IsInstalled version)) h.3) (sym installed) h.10,
      subst (IsSlot (AreTransactions version) h.4) (sym transactions) h.11,
      subst (IsMark (IsNumberOf version) h.5) (sym number) h.12,
    ),
  )

  pub initial_taken : (m : FinMap row_cmp ℤ) → Spelled 3 (IsMapOf (IsPair version IsValue)) old new m
      → after.end ≡ before.end → after.has_format ≡ before.has_format → after.initial ≡ Some m → after.installed ≡ before.installed → after.txns ≡ before.txns → after.has_version ≡ before.has_version
      → TakesMember 7 (HoldRoot version) (codes "initial") old new before after
  initial_taken m s end format initial installed transactions number = (
    s.tree,
    deeper 3 7 old new s.tree (omega arith) s.spells,
    λ ms h. (
      h.0,
      h.1,
      Some s.tree,
      h.3,
      h.4,
      h.5,
      ap (put (codes "initial") s.tree) h.6 ∙ put_filled (codes "initial") root_keys 2 s.tree (h.0 ∷ h.1 ∷ h.2 ∷ h.3 ∷ h.4 ∷ h.5 ∷ []) refl (refl, (refl, (refl, refl, (refl, (refl, (refl, tt)))))),
      subst (IsSlot (IsMapOf (IsPair version IsValue)) h.0) (sym end) h.7,
      subst (IsMark IsFormat h.1) (sym format) h.8,
      subst (IsSlot (IsMapOf (IsPair version IsValue)) (Some s.tree)) (sym initial) s.stands,
      subst (IsSlot (IsMapOf (IsInstalled version)) h.3) (sym installed) h.10,
      subst (IsSlot (AreTransactions version) h.4) (sym transactions) h.11,
      subst (IsMark (IsNumberOf version) h.5) (sym number) h.12,
    ),
  )

  pub installed_taken : (m : FinMap row_cmp (List ℕ)) → Spelled 3 (IsMapOf (IsInstalled version)) old new m
      → after.end ≡ before.end → after.has_format ≡ before.has_format → after.initial ≡ before.initial → after.installed ≡ Some m → after.txns ≡ before.txns → after.has_version ≡ before.has_version
      → TakesMember 7 (HoldRoot version) (codes "installed") old new before after
  installed_taken m s end format initial installed transactions number = (
    s.tree,
    deeper 3 7 old new s.tree (omega arith) s.spells,
    λ ms h. (
      h.0,
      h.1,
      h.2,
      Some s.tree,
      h.4,
      h.5,
      ap (put (codes "installed") s.tree) h.6 ∙ put_filled (codes "installed") root_keys 3 s.tree (h.0 ∷ h.1 ∷ h.2 ∷ h.3 ∷ h.4 ∷ h.5 ∷ []) refl (refl, (refl, (refl, (refl, refl, (refl, (refl, tt)))))),
      subst (IsSlot (IsMapOf (IsPair version IsValue)) h.0) (sym end) h.7,
      subst (IsMark IsFormat h.1) (sym format) h.8,
      subst (IsSlot (IsMapOf (IsPair version IsValue)) h.2) (sym initial) h.9,
      subst (IsSlot (IsMapOf (IsInstalled version)) (Some s.tree)) (sym installed) s.stands,
      subst (IsSlot (AreTransactions version) h.4) (sym transactions) h.11,
      subst (IsMark (IsNumberOf version) h.5) (sym number) h.12,
    ),
  )

  pub txns_taken : (txns : List Txn) → Spelled 7 (IsListOf (IsTransaction version)) old new txns → AllStand Stands [] txns → length txns ≤ 1000
      → after.end ≡ before.end → after.has_format ≡ before.has_format → after.initial ≡ before.initial → after.installed ≡ before.installed → after.txns ≡ Some txns → after.has_version ≡ before.has_version
      → TakesMember 7 (HoldRoot version) (codes "transactions") old new before after
  txns_taken txns s stand few end format initial installed transactions number = (
    s.tree,
    s.spells,
    λ ms h. (
      h.0,
      h.1,
      h.2,
      h.3,
      Some s.tree,
      h.5,
      ap (put (codes "transactions") s.tree) h.6 ∙ put_filled (codes "transactions") root_keys 4 s.tree (h.0 ∷ h.1 ∷ h.2 ∷ h.3 ∷ h.4 ∷ h.5 ∷ []) refl (refl, (refl, (refl, (refl, (refl, refl, (refl, tt)))))),
      subst (IsSlot (IsMapOf (IsPair version IsValue)) h.0) (sym end) h.7,
      subst (IsMark IsFormat h.1) (sym format) h.8,
      subst (IsSlot (IsMapOf (IsPair version IsValue)) h.2) (sym initial) h.9,
      subst (IsSlot (IsMapOf (IsInstalled version)) h.3) (sym installed) h.10,
      subst (IsSlot (AreTransactions version) (Some s.tree)) (sym transactions) (s.stands, stand, few),
      subst (IsMark (IsNumberOf version) h.5) (sym number) h.12,
    ),
  )

  pub version_taken : (n : ℕ) → IsWhole old new n → n ≡ version_number version
      → after.end ≡ before.end → after.has_format ≡ before.has_format → after.initial ≡ before.initial → after.installed ≡ before.installed → after.txns ≡ before.txns → after.has_version ≡ true
      → TakesMember 7 (HoldRoot version) (codes "version") old new before after
  version_taken n s is end format initial installed transactions number = (
    (Data.number (unsigned n)),
    deeper 0 7 old new (Data.number (unsigned n)) (omega arith) (number_spelled old new s.text (unsigned n) s.taken s.is),
    λ ms h. (
      h.0,
      h.1,
      h.2,
      h.3,
      h.4,
      Some (Data.number (unsigned n)),
      ap (put (codes "version") (Data.number (unsigned n))) h.6 ∙ put_filled (codes "version") root_keys 5 (Data.number (unsigned n)) (h.0 ∷ h.1 ∷ h.2 ∷ h.3 ∷ h.4 ∷ h.5 ∷ []) refl (refl, (refl, (refl, (refl, (refl, (refl, refl, tt)))))),
      subst (IsSlot (IsMapOf (IsPair version IsValue)) h.0) (sym end) h.7,
      subst (IsMark IsFormat h.1) (sym format) h.8,
      subst (IsSlot (IsMapOf (IsPair version IsValue)) h.2) (sym initial) h.9,
      subst (IsSlot (IsMapOf (IsInstalled version)) h.3) (sym installed) h.10,
      subst (IsSlot (AreTransactions version) h.4) (sym transactions) h.11,
      subst (IsMark (IsNumberOf version) (Some (Data.number (unsigned n)))) (sym number) (ap (λ m. Some m) is),
    ),
  )

mark_full : (Is : Data → Type 0) (o : Option Data) (found : Bool) → IsMark Is o found → found ≡ true → (d : Data) × (o ≡ Some d) × Is d
mark_full Is None false m e = absurd cc
mark_full Is None true m e = absurd m
mark_full Is (Some d) found m e = (d, refl, m)

root_held : (version : FileVersion) (ms : Members) (fields : RootFields) (h : History) → HoldRoot version ms fields
    → fields.end ≡ Some h.end_table → fields.has_format ≡ true → fields.initial ≡ Some h.initial → fields.installed ≡ Some h.installed → fields.txns ≡ Some h.txns → fields.has_version ≡ true → parts_in (object ms) ≡ Ok h
root_held version ms fields h held end format initial installed txns number =
    let e = slot_full (IsMapOf (IsPair version IsValue)) held.0 fields.end h.end_table held.7 end in
    let f = mark_full IsFormat held.1 fields.has_format held.8 format in
    let b = slot_full (IsMapOf (IsPair version IsValue)) held.2 fields.initial h.initial held.9 initial in
    let n = slot_full (IsMapOf (IsInstalled version)) held.3 fields.installed h.installed held.10 installed in
    let t = slot_full (AreTransactions version) held.4 fields.txns h.txns held.11 txns in
    let v = mark_full (IsNumberOf version) held.5 fields.has_version held.12 number in
    let full : slots root_keys (held.0 ∷ held.1 ∷ held.2 ∷ held.3 ∷ held.4 ∷ held.5 ∷ []) ≡ slots root_keys (Some e.0 ∷ Some (string (codes "hermitage-history")) ∷ Some b.0 ∷ Some n.0 ∷ Some t.0 ∷ Some v.0 ∷ []) =
    λ i. slots root_keys (e.1 i ∷ (f.1 ∙ ap (λ d. Some d) f.2) i ∷ b.1 i ∷ n.1 i ∷ t.1 i ∷ v.1 i ∷ []) in
    let holds : HoldsIn version (object ms) h = record {
      number = v.0;
      initial = b.0;
      transactions = t.0;
      installed = n.0;
      end = e.0;
      tree = ap object (held.6 ∙ full);
      number_is = v.2;
      initial_is = b.2;
      transactions_are = t.2.0;
      installed_is = n.2;
      end_is = e.2;
    } in
    parts_are_read version (object ms) h holds t.2.1 t.2.2

none_held : (version : FileVersion) (fields : RootFields) → fields.end ≡ None → fields.has_format ≡ false → fields.initial ≡ None → fields.installed ≡ None → fields.txns ≡ None → fields.has_version ≡ false → HoldRoot version no_members fields
none_held version fields end format initial installed txns number = (
  None,
  None,
  None,
  None,
  None,
  None,
  refl,
  subst (IsSlot (IsMapOf (IsPair version IsValue)) None) (sym end) tt,
  subst (IsMark IsFormat None) (sym format) tt,
  subst (IsSlot (IsMapOf (IsPair version IsValue)) None) (sym initial) tt,
  subst (IsSlot (IsMapOf (IsInstalled version)) None) (sym installed) tt,
  subst (IsSlot (AreTransactions version) None) (sym txns) tt,
  subst (IsMark (IsNumberOf version) None) (sym number) tt,
)

pub root_taken : (version : FileVersion) (old new : List Token) (before after : RootFields) (h : History) → TakesObject 7 (HoldRoot version) old new before after
    → before.end ≡ None → before.has_format ≡ false → before.initial ≡ None → before.installed ≡ None → before.txns ≡ None → before.has_version ≡ false
    → after.end ≡ Some h.end_table → after.has_format ≡ true → after.initial ≡ Some h.initial → after.installed ≡ Some h.installed → after.txns ≡ Some h.txns → after.has_version ≡ true
    → Spelled 8 (λ d g. parts_in d ≡ Ok g) old new h
root_taken version old new before after h t no_end no_format no_initial no_installed no_txns no_number end format initial installed txns number = record {
  tree = object t.0;
  spells = t.1;
  stands = root_held version t.0 after h (t.2 (none_held version before no_end no_format no_initial no_installed no_txns no_number)) end format initial installed txns number;
}

pub root_ended : {E : Type 0} (version : FileVersion) (old new : List Token) (before after : RootFields) (o : Option History) (r : Result History E) → TakesObject 7 (HoldRoot version) old new before after
    → before.end ≡ None → before.has_format ≡ false → before.initial ≡ None → before.installed ≡ None → before.txns ≡ None → before.has_version ≡ false
    → IfSome o (λ h. (after.end ≡ Some h.end_table) × (after.initial ≡ Some h.initial) × (after.installed ≡ Some h.installed) × (after.txns ≡ Some h.txns))
    → IfSome o (λ _. (after.has_format ≡ true) × (after.has_version ≡ true)) → o ≡ result_ok r → IfOk r (λ h. Spelled 8 (λ d g. parts_in d ≡ Ok g) old new h)
root_ended version old new before after o (Err e) t no_end no_format no_initial no_installed no_txns no_number found said is = tt
root_ended version old new before after o (Ok h) t no_end no_format no_initial no_installed no_txns no_number found said is =
    let all : (after.end ≡ Some h.end_table) × (after.initial ≡ Some h.initial) × (after.installed ≡ Some h.installed) × (after.txns ≡ Some h.txns) = subst (λ x. IfSome x (λ h. (after.end ≡ Some h.end_table) × (after.initial ≡ Some h.initial) × (after.installed ≡ Some h.installed) × (after.txns ≡ Some h.txns))) is found in
    let told : (after.has_format ≡ true) × (after.has_version ≡ true) = subst (λ x. IfSome x (λ _. (after.has_format ≡ true) × (after.has_version ≡ true))) is said in
    root_taken version old new before after h t no_end no_format no_initial no_installed no_txns no_number all.0 told.0 all.1 all.2 all.3 told.1

pub text_read : (bytes : List ℕ) (new : List Token) (h : History) → IsUtf8 bytes → Spelled 8 (λ d g. parts_in d ≡ Ok g) (tokens bytes) new h → new ≡ [] → PartsIn bytes h
text_read bytes new h utf8 s over = (s.tree, text_spelled bytes new s.tree 8 (omega arith) utf8 s.spells over, s.stands)
