-- The tokens of the text of one statement.
use Rattle.lab_statement.proofs.Common.{◌≡◌, ℕ, ◌≤◌, Bool, true, cond, List, [], ◌∷◌, length, Option, Some, None, refl, sym, ap, subst, ◌∙◌, inl, inr, arith, list_all, cases_Bool, Statement, ScriptFaultKind, Refusal, Token, tokens, SaysOfStatement, IsStatementFault, refusal_at, IsWholeStatement, AreStatementTokens, begins_remark, code_of, is_code_byte, HasWhere, BeginsLongStatement, SpellsStatement, statement_fault, StopsFirst}
use Rattle.lab_statement.specs.declared.fault.Refusal.TheVariants as refusal
use Rattle.lab_statement.proofs.GrammarFaults.{no_statement_fault}
use Rattle.lab_statement.proofs.FaultKinds.{statement_kinds}
use Rattle.lab_statement.proofs.Remarks.{code_undashed, undashed_code}
use Rattle.lab_statement.proofs.KnownTokens.{as_spelled, as_whole, closed_known, long_before_last, where_before_last}

-- code that is as long as the text is the text
pub all_code : (text : List ℕ) → length text ≤ length (code_of text) → code_of text ≡ text
all_code [] within = refl
all_code (b ∷ bytes) within =
    elim (cases_Bool (begins_remark (b ∷ bytes))) [
      | inl is ↦
          let none : code_of (b ∷ bytes) ≡ [] = ap (λ (v : Bool). cond v [] (b ∷ code_of bytes)) is in
          let short : length (code_of (b ∷ bytes)) ≡ 0 = ap length none in
          absurd (omega arith)
      | inr isnt ↦
          let on : code_of (b ∷ bytes) ≡ b ∷ code_of bytes = ap (λ (v : Bool). cond v [] (b ∷ code_of bytes)) isnt in
          let len : length (code_of (b ∷ bytes)) ≡ length (b ∷ code_of bytes) = ap length on in
          on ∙ ap (λ (bs : List ℕ). b ∷ bs) (all_code bytes (omega arith))
    ]

module _ (text : List ℕ) (short : length text ≤ 4000) (ascii : list_all is_code_byte text ≡ true) where
  -- what these tokens spell, the text spells
  pub text_spells : (ts : List Token) → AreStatementTokens text ts → (s : Statement) → IsWholeStatement ts s → SpellsStatement text s
  text_spells ts (inl (all, is)) s closed =
      let whole = subst (λ (us : List Token). IsWholeStatement us s) is closed in
      record { bytes = short; ascii = ascii; no_remark = code_undashed text all; parts = as_spelled text s whole; printed = whole.printed }
  text_spells ts (inr (cut, is)) s closed = absurd (closed_known (tokens (code_of text)) s (subst (λ (us : List Token). IsWholeStatement us s) is closed))

  -- what the text spells, these tokens spell
  spelled_tokens : (ts : List Token) → AreStatementTokens text ts → (s : Statement) → SpellsStatement text s → IsWholeStatement ts s
  spelled_tokens ts (inl (all, is)) s spells = subst (λ (us : List Token). IsWholeStatement us s) (sym is) (as_whole text s spells)
  spelled_tokens ts (inr (cut, is)) s spells = absurd (cut (undashed_code text spells.no_remark))

  -- a where of these tokens stands in the text
  where_of : (ts : List Token) → AreStatementTokens text ts → HasWhere ts → HasWhere (tokens (code_of text))
  where_of ts (inl (all, is)) has = subst HasWhere (is ∙ ap tokens (sym all)) has
  where_of ts (inr (cut, is)) has = where_before_last (tokens (code_of text)) has.0 has.1 (sym is ∙ has.2)

  -- and a statement with which they begin
  long_of : (ts : List Token) → AreStatementTokens text ts → BeginsLongStatement ts → BeginsLongStatement (tokens (code_of text))
  long_of ts (inl (all, is)) long = subst BeginsLongStatement (is ∙ ap tokens (sym all)) long
  long_of ts (inr (cut, is)) long = long_before_last (tokens (code_of text)) (subst BeginsLongStatement is long)

  -- where reading these tokens stopped, the text spells nothing
  pub stop_fault : (ts : List Token) → AreStatementTokens text ts → (e : Refusal) → StopsFirst (statement_fault ts) e → IsStatementFault text (refusal_at e 1)
  stop_fault ts are refusal.NoMemory first = tt
  stop_fault ts are (refusal.Fault f) first = (
    refl,
    λ t spells. let none : ◌≡◌ {A = Option ScriptFaultKind} None (Some f) = sym ((no_statement_fault ts).1 (t, spelled_tokens ts are t spells)) ∙ first in absurd cc,
    statement_kinds (λ kind. SaysOfStatement kind text) ts (short, ascii) (λ has. (short, ascii, where_of ts are has)) (short, ascii) (short, ascii) (short, ascii) (λ long. inr (ascii, long_of ts are long)) f first,
  )
