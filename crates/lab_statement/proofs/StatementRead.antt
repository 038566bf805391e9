-- The statement that a text spells is what reading the text gives.
use Rattle.lab_statement.proofs.Common.{◌≡◌, ℕ, true, List, length, Some, None, ◌≢◌, refl, sym, ap, ◌∙◌, arith, nat_le, list_all, eqb-true, eq-eqb, le-leb, leb-true, and_from, and_parts, same_Some, Statement, IsStatementFault, tokens, read_value, whole_statement_read, code_of, is_code_byte, SpellsStatement}
use Rattle.lab_statement.specs.{declared.fault.ScriptFault.{ScriptFault}, StatementText.{is_code_alone, statement_in}}
use Rattle.lab_statement.specs.declared.fault.ScriptFault.TheVariants as fault
use Rattle.lab_statement.proofs.Remarks.{code_undashed, undashed_code}
use Rattle.lab_statement.proofs.KnownTokens.{as_spelled, as_whole}
use Rattle.lab_statement.proofs.Readings.{valued}
use Rattle.lab_statement.proofs.ReadStatements.{whole_again, whole_takes}
use Rattle.lab_statement.proofs.StatementText.{all_code}
use Rattle.lab_table.proofs.Tests.{under_condition}

-- what a text spells is read from it
pub spells_in : (text : List ℕ) (s : Statement) → SpellsStatement text s → statement_in text ≡ Some s
unfolding statement_in
spells_in text s h =
    let alone : is_code_alone text ≡ true = and_from _ _ (le-leb (length text) 4000 h.bytes) (and_from _ _ h.ascii (eq-eqb (length (code_of text)) (length text) (ap length (undashed_code text h.no_remark)))) in
    rw (alone, whole_again (as_whole text s h)) refl

-- what is read from a text it spells
pub in_spells : (text : List ℕ) (s : Statement) → statement_in text ≡ Some s → SpellsStatement text s
unfolding statement_in
in_spells text s read =
    let found = under_condition (is_code_alone text) (read_value (whole_statement_read (tokens text))) s read in
    let short = and_parts (nat_le (length text) 4000) _ found.0 in
    let code = and_parts (list_all is_code_byte text) _ short.1 in
    let len : length (code_of text) ≡ length text = eqb-true _ _ code.1 in
    let whole = whole_takes (tokens text) s (valued (whole_statement_read (tokens text)) s found.1) in
    record { bytes = leb-true _ _ short.0; ascii = code.0; no_remark = code_undashed text (all_code text (omega arith)); parts = as_spelled text s whole; printed = whole.printed }

-- from a text that spells nothing nothing is read
pub none_in : (text : List ℕ) → ((s : Statement) → SpellsStatement text s → ⊥) → statement_in text ≡ None
none_in text none =
    elim (statement_in text) as (λ r. ((s : Statement) → r ≡ Some s → ⊥) → r ≡ None) [ None ↦ λ never. refl | Some s ↦ λ never. absurd (never s refl) ] (λ s read. none s (in_spells text s read))

-- a text spells one statement at most
pub spells_once : (text : List ℕ) (s t : Statement) → SpellsStatement text s → SpellsStatement text t → s ≡ t
spells_once text s t one other = same_Some s t (sym (spells_in text s one) ∙ spells_in text t other)

-- where a text has a fault, it spells nothing, or there was no memory
pub fault_only : (text : List ℕ) (f : ScriptFault) → IsStatementFault text f → (s : Statement) → SpellsStatement text s → f ≡ fault.NoMemory
fault_only text fault.NoMemory is s spells = refl
fault_only text (fault.At n kind) is s spells = absurd (is.1 s spells)

pub fault_read : (text : List ℕ) (f : ScriptFault) → IsStatementFault text f → f ≢ fault.NoMemory → statement_in text ≡ None
fault_read text fault.NoMemory is not = absurd (not refl)
fault_read text (fault.At n kind) is not = none_in text is.1
