-- With which faults reading stops.
use Rattle.lab_statement.proofs.Common.{◌≡◌, ℕ, Bool, true, false, if◌then◌else◌, List, [], ◌∷◌, ◌++◌, length, Some, None, take, drop, inl, inr, ⊎_elim, ◌⊎◌, ◌-◌, refl, sym, ap, ◌∙◌, append_assoc, false≢true, take-append-drop, Token, is_token, ScriptFaultKind, in_predicate, statement_fault, whole_statement_read, placed_kind, cases_Bool, HasWhere, BeginsLongStatement}
use Rattle.lab_table.specs.declared.word.Word.TheVariants as word
use Rattle.lab_statement.specs.declared.token.Token.TheVariants as token
use Rattle.lab_statement.specs.declared.fault.ScriptFaultKind.TheVariants as kinds
use Rattle.lab_statement.proofs.GrammarFaults.{fault_is}
use Rattle.lab_statement.proofs.Takes.{stop_of}
use Rattle.lab_statement.proofs.StatementTaken.{whole_gives}
use Rattle.lab_statement.proofs.SameTokens.{same_token}

-- with one more token in front
where_further : (t : Token) (ts : List Token) → HasWhere ts → HasWhere (t ∷ ts)
where_further t ts has = (t ∷ has.0, has.1, ap (λ (us : List Token). t ∷ us) has.2)

-- what ends behind a where after one token is that where, or was behind one before it
inside_after : (is_where semicolon inside : Bool) (t : Token) (ts : List Token) → (is_where ≡ true → t ≡ token.Word word.Where)
    → (if is_where then true else if semicolon then false else inside) ≡ true → (inside ≡ true) ⊎ HasWhere (t ∷ ts)
inside_after true semicolon inside t ts is e = inr ([], ts, ap (λ (u : Token). u ∷ ts) (is refl))
inside_after false true inside t ts is e = absurd (false≢true e)
inside_after false false inside t ts is e = inl e

-- tokens that end behind a where have one, or began behind one
where_stands : (inside : Bool) (ts : List Token) → in_predicate inside ts ≡ true → (inside ≡ true) ⊎ HasWhere ts
where_stands inside [] e = inl e
where_stands inside (t ∷ ts) e =
    ⊎_elim
    (inside_after (is_token t (token.Word word.Where)) (is_token t token.Semicolon) inside t ts (same_token t (token.Word word.Where)))
    (λ (has : HasWhere ts). inr (where_further t ts has))
    (where_stands (if is_token t (token.Word word.Where) then true else if is_token t token.Semicolon then false else inside) ts e)

-- some tokens at the front that end behind a where
where_in_front : (n : ℕ) (ts : List Token) → in_predicate false (take n ts) ≡ true → HasWhere ts
where_in_front n ts e = elim (where_stands false (take n ts) e) [
  | inl is ↦ absurd (false≢true is)
  | inr has ↦ (
    has.0,
    has.1 ++ drop n ts,
    sym (take-append-drop n ts) ∙ ap (λ (us : List Token). us ++ drop n ts) has.2 ∙ append_assoc has.0 (token.Word word.Where ∷ has.1) (drop n ts),
  )
]

-- a fault of a line, where it stands
abbrev pub Placed : (ScriptFaultKind → Type 0) → List Token → ScriptFaultKind → Type 0
Placed Is ts kind = (left : ℕ) → Is (placed_kind ts kind left)

module _ (Is : ScriptFaultKind → Type 0) (ts : List Token) (unknown : Is kinds.UnknownStatement) (behind_where : HasWhere ts → Is kinds.BadPredicate) (name : Is kinds.BadTableName)
    (range : Is kinds.NumberOutOfRange) (deep : Is kinds.TooDeep) where
  pub unknown_placed : Placed Is ts kinds.UnknownStatement
  unknown_placed left = elim (cases_Bool (in_predicate false (take (length ts - left) ts))) [
    | inl is ↦ rw is (behind_where (where_in_front (length ts - left) ts is))
    | inr isnt ↦ rw isnt unknown
  ]

  -- where reading one statement stops
  pub statement_kinds : (BeginsLongStatement ts → Is kinds.TooLong) → (f : ScriptFaultKind) → statement_fault ts ≡ Some f → Is f
  statement_kinds long f e = fault_is (λ s. None) (placed_kind ts) Is (whole_statement_read ts) f e (λ s read none. absurd cc)
      (λ kind left is. stop_of kind left (whole_gives {Fault = Placed Is ts} unknown_placed (λ n. name) (λ n. range) (λ n. deep) ts (λ over n. long over)) is (length left))
