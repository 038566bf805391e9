-- The text of one statement has one fault.
use Rattle.lab_statement.proofs.Common.{◌≡◌, ◌⊎◌, inl, inr, ℕ, ◌<◌, ◌≤◌, true, false, List, length, refl, sym, ap, ◌∙◌, arith, list_all, false≢true, cases_lt, ScriptFaultKind, Token, SaysOfStatement, IsStatementFault, IsFirstInText, statement_fault, AreStatementTokens, is_code_byte, same_Some}
use Rattle.lab_statement.specs.declared.fault.ScriptFault.TheVariants as fault
use Rattle.lab_statement.specs.declared.fault.ScriptFaultKind.TheVariants as kinds

module _ (text : List ℕ) where
  -- the three sorts of faults: the text is over its limit, or it isn't and has a byte that is no code, or its tokens are looked at
  abbrev Sort : ScriptFaultKind → Type 0
  Sort kind =
      ((kind ≡ kinds.TooLong) × (4000 < length text)) ⊎ (((kind ≡ kinds.NotAscii) × (length text ≤ 4000) × (list_all is_code_byte text ≡ false))
      ⊎ ((length text ≤ 4000) × (list_all is_code_byte text ≡ true)))

  sort_of : (kind : ScriptFaultKind) → SaysOfStatement kind text → Sort kind
  sort_of kinds.NotAscii says = inr (inl (refl, says.0, says.1))
  sort_of kinds.TooLong (inl long) = inl (refl, long)
  sort_of kinds.TooLong (inr says) = elim (cases_lt 4000 (length text)) [ inl long ↦ inl (refl, long) | inr short ↦ inr (inr (short, says.0)) ]
  sort_of kinds.UnknownStatement says = inr (inr (says.0, says.1))
  sort_of kinds.BadPredicate says = inr (inr (says.0, says.1))
  sort_of kinds.BadTableName says = inr (inr (says.0, says.1))
  sort_of kinds.NumberOutOfRange says = inr (inr (says.0, says.1))
  sort_of kinds.TooDeep says = inr (inr (says.0, says.1))
  sort_of kind says = absurd says

  -- a text has its tokens
  one_tokens : (ts us : List Token) → AreStatementTokens text ts → AreStatementTokens text us → ts ≡ us
  one_tokens ts us (inl (alone, is)) (inl (also, same)) = is ∙ sym same
  one_tokens ts us (inl (alone, is)) (inr (not, same)) = absurd (not alone)
  one_tokens ts us (inr (not, is)) (inl (alone, same)) = absurd (not alone)
  one_tokens ts us (inr (not, is)) (inr (neither, same)) = is ∙ sym same

  module _ (n m : ℕ) (kind other : ScriptFaultKind) (first : IsFirstInText text (fault.At n kind)) (again : IsFirstInText text (fault.At m other)) where
    one_sort : Sort kind → Sort other → kind ≡ other
    one_sort (inl p) (inl q) = p.0 ∙ sym q.0
    one_sort (inl p) (inr (inl q)) = let long = p.1 in let short = q.1 in absurd (omega (arith, long, short))
    one_sort (inl p) (inr (inr q)) = let long = p.1 in let short = q.0 in absurd (omega (arith, long, short))
    one_sort (inr (inl p)) (inl q) = let long = q.1 in let short = p.1 in absurd (omega (arith, long, short))
    one_sort (inr (inl p)) (inr (inl q)) = p.0 ∙ sym q.0
    one_sort (inr (inl p)) (inr (inr q)) = absurd (false≢true (sym p.2 ∙ q.1))
    one_sort (inr (inr p)) (inl q) = let long = q.1 in let short = p.0 in absurd (omega (arith, long, short))
    one_sort (inr (inr p)) (inr (inl q)) = absurd (false≢true (sym q.2 ∙ p.1))
    one_sort (inr (inr p)) (inr (inr q)) =
        let one = first p.0 p.1 in
        let another = again q.0 q.1 in
        same_Some kind other (sym one.2 ∙ ap statement_fault (one_tokens one.0 another.0 one.1 another.1) ∙ another.2)

  pub one_statement_fault : (n m : ℕ) (kind other : ScriptFaultKind) → IsStatementFault text (fault.At n kind) → IsFirstInText text (fault.At n kind)
      → IsStatementFault text (fault.At m other) → IsFirstInText text (fault.At m other) → (n ≡ m) × (kind ≡ other)
  one_statement_fault n m kind other is first also again = (is.0 ∙ sym also.0, one_sort n m kind other first again (sort_of kind is.2) (sort_of other also.2))
