-- Which members of an object its fields hold. Only private clauses cite it.
use Rattle.std.specs.Prelude.{◌≡◌, ℕ, ◌≤◌, ⊤, Bool, true, false, List, [], ◌∷◌, length, Option, Some, None, option_and_then, codes}
use Rattle.serde_json.specs.Data.{Data, Members, string}
use Rattle.serde_json.specs.Find.{as_number, as_u64}
use Rattle.lab_history.specs.declared.transaction.Txn.{Txn}
use Rattle.lab_history.specs.declared.transaction.Outcome.{Outcome}
use Rattle.lab_table.specs.declared.statement.Statement.{Statement}
use Rattle.lab_history_file.specs.Behind.{AllStand, Stands}
use Rattle.lab_history_file.specs.Entries.{txn_in_number}
use Rattle.lab_history_file.specs.FileOf.{IsListOf, IsMapOf, IsPair, IsValue, IsState, IsVersion, IsInstalled, SpellsIn, IsOperation, IsTransaction, outcome_text}
use Rattle.lab_history_file.specs.FileVersion.{version_number}
use Rattle.lab_history_file.specs.Keys.{op_keys, txn_keys, root_keys}
use Rattle.lab_history_file.specs.Slots.{slots, IsSlot}
use Rattle.lab_history_file.specs.declared.file_version.FileVersion.{FileVersion}
use Rattle.lab_history_file.specs.declared.reading.stream.operation.OpFields.{OpFields}
use Rattle.lab_history_file.specs.declared.reading.stream.transaction.TxnFields.{TxnFields}
use Rattle.lab_history_file.specs.declared.reading.stream.RootFields.{RootFields}

-- a text spells a statement that a file of this version may have
abbrev pub IsStatement : FileVersion → Data → Statement → Type 0
IsStatement version d s = (text : List ℕ) × (d ≡ string text) × SpellsIn version text s

abbrev pub IsTxnNo : Data → ℕ → Type 0
IsTxnNo d n = txn_in_number d ≡ Some n

abbrev pub IsOutcome : Data → Outcome → Type 0
IsOutcome d outcome = d ≡ string (outcome_text outcome)

-- transactions, each of which may follow those before it
abbrev pub AreTransactions : FileVersion → Data → List Txn → Type 0
AreTransactions version d txns = IsListOf (IsTransaction version) d txns × AllStand Stands [] txns × (length txns ≤ 1000)

abbrev pub IsFormat : Data → Type 0
IsFormat d = d ≡ string (codes "hermitage-history")

abbrev pub IsNumberOf : FileVersion → Data → Type 0
IsNumberOf version d = option_and_then as_u64 (as_number d) ≡ Some (version_number version)

-- a member that was found is as it should be
abbrev pub IsMark : (Data → Type 0) → Option Data → Bool → Type 0
IsMark Is None false = ⊤
IsMark Is None true = ⊥
IsMark Is (Some d) found = Is d

abbrev pub HoldOp : FileVersion → Members → OpFields → Type 0
HoldOp version ms f = (rows statement view writes : Option Data) × (ms ≡ slots op_keys (rows ∷ statement ∷ view ∷ writes ∷ []))
    × IsSlot (IsMapOf (IsPair version IsValue)) rows f.rows × IsSlot (IsStatement version) statement f.statement
    × IsSlot (IsMapOf (IsVersion version)) view f.view × IsSlot (IsMapOf (IsPair version IsState)) writes f.writes

abbrev pub HoldTxn : FileVersion → Members → TxnFields → Type 0
HoldTxn version ms f = (own ops outcome : Option Data) × (ms ≡ slots txn_keys (own ∷ ops ∷ outcome ∷ []))
    × IsSlot IsTxnNo own f.no × IsSlot (IsListOf (IsOperation version)) ops f.ops × IsSlot IsOutcome outcome f.outcome

abbrev pub HoldRoot : FileVersion → Members → RootFields → Type 0
HoldRoot version ms f = (end format initial installed txns number : Option Data) × (ms ≡ slots root_keys (end ∷ format ∷ initial ∷ installed ∷ txns ∷ number ∷ []))
    × IsSlot (IsMapOf (IsPair version IsValue)) end f.end × IsMark IsFormat format f.has_format × IsSlot (IsMapOf (IsPair version IsValue)) initial f.initial
    × IsSlot (IsMapOf (IsInstalled version)) installed f.installed × IsSlot (AreTransactions version) txns f.txns × IsMark (IsNumberOf version) number f.has_version
