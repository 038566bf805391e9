-- What is read as a statement, or as a part of one, is one of the grammar, and reading stops with few kinds of faults.
use Rattle.lab_statement.proofs.Common.{◌≡◌, ℕ, zero, suc, ◌≤◌, Some, List, [], ◌∷◌, ◌++◌, length, refl, subst, sym, ap, ◌∙◌, append_assoc, append-nil, arith, inl, inr, ℤ, pos, ◌⊎◌, ◌==◌, ◌&&◌, nat_le, leb-true, leb-false, eqb-true, and_parts, nil_from_length, Col, Token, ScriptFaultKind, over, P, A, N, col_token, cmp_token, IsNumber, IsAtom, IsPred, IsWhere, IsExpr, IsRow, IsStatement, IsEnd, IsWholeStatement, max_statement_bytes, printed_statement, Reading, digits_read, magnitude_read, number_read, more_read, positive_read, row_read, name_of, name_read, col_read, cmp_read, one_more, numbers_read, number_list_read, compare_read, remainder_read, one_of_read, atom_read, joined_read, term_read, conj_read, pred_read, where_read, expr_read, select_read, update_read, insert_read, delete_read, statement_read, end_read, nothing_read, whole_statement_read, BeginsLongStatement}
use Rattle.lab_table.specs.Predicate as predicate
use Rattle.lab_table.specs.declared.statement.StatementKind.TheVariants as kind
use Rattle.lab_table.specs.declared.statement.Expr.TheVariants as expr
use Rattle.lab_table.specs.declared.word.Word.TheVariants as word
use Rattle.lab_statement.specs.declared.token.Token.TheVariants as token
use Rattle.lab_statement.specs.declared.fault.ScriptFaultKind.TheVariants as kinds
use Rattle.lab_statement.specs.Grammar as grammar
use Rattle.lab_statement.proofs.Numbers.{IsNumbers, are_list}
use Rattle.lab_statement.proofs.Numbers as numbers
use Rattle.lab_statement.proofs.Takes.{Gives, gives, stops, Takes, then_gives, if_gives, found_gives, taken, each_taken, behind, behind_spelled, made, found, behind_token, behind_tokens, token_gives}

-- an end behind which nothing is left
end_is : (ts rest : List Token) → ((ts ≡ []) × (rest ≡ [])) ⊎ (ts ≡ token.Semicolon ∷ rest) → rest ≡ [] → IsEnd ts
end_is ts rest (inl both) none = subst IsEnd (sym both.0) grammar.open_end
end_is ts rest (inr is) none = subst IsEnd (sym (is ∙ ap (λ (us : List Token). token.Semicolon ∷ us) none)) grammar.semicolon

-- one number behind others
one_behind : {ts rest : List Token} {zs : List ℤ} {z : ℤ} → IsNumbers ts zs → IsNumber rest z → IsNumbers (ts ++ token.Comma ∷ rest) (zs ++ z ∷ [])
one_behind (numbers.one n) m = numbers.others n (numbers.one m)
one_behind {rest} (numbers.others {ts} {rest = others} n ns) m = rw (append_assoc ts (token.Comma ∷ others) (token.Comma ∷ rest)) (numbers.others n (one_behind ns m))

-- members with a connective between two of them
module _ {Fault : ScriptFaultKind → Type 0} {A X : Type 0} (first : X → A) (member : List Token → Reading (X × List Token)) (connective : Token) (join : A → X → A)
    (IsMember : List Token → X → Type 0) (IsJoined : List Token → A → Type 0) (member_taken : (ts : List Token) → Takes Fault IsMember ts (member ts))
    (one_is : (ts : List Token) (x : X) → IsMember ts x → IsJoined ts (first x))
    (more_is : (ts rest : List Token) (a : A) (x : X) → IsJoined ts a → IsMember rest x → IsJoined (ts ++ connective ∷ rest) (join a x)) where
  more_taken : (k : ℕ) (a : A) (front ts : List Token) → IsJoined front a → Takes Fault (λ back. IsJoined (front ++ back)) ts (more_read k member connective join a ts)
  unfolding more_read
  more_taken zero a front ts is = taken [] refl (rw append-nil is)
  more_taken (suc k) a front ts is = found connective ts _ _
      (λ rest. behind _ (member_taken rest) (λ x back one left. each_taken (more_taken k (join a x) (front ++ connective ∷ back) left (more_is front back a x is one))
      (λ further all h. subst (λ (us : List Token). IsJoined us all) (append_assoc front (connective ∷ back) further) h)))
      (taken [] refl (rw append-nil is))

  joined_taken : (ts : List Token) → Takes Fault IsJoined ts (joined_read first member connective join ts)
  unfolding joined_read
  joined_taken ts = behind _ (member_taken ts) (λ x front one rest. more_taken (length rest) (first x) front rest (one_is front x one))

module _ {Fault : ScriptFaultKind → Type 0} (unknown : Fault kinds.UnknownStatement) (name : Fault kinds.BadTableName) (range : Fault kinds.NumberOutOfRange) where
  -- numbers

  digits_give : (ts : List Token) → Gives Fault (λ x. ts ≡ token.Digits x.0 ∷ x.1) (digits_read ts)
  unfolding digits_read
  digits_give [] = stops unknown
  digits_give (token.Digits n ∷ ts) = gives refl
  digits_give (t ∷ ts) = stops unknown

  magnitude_gives : (ts : List Token) → Gives Fault (λ x. (ts ≡ token.Digits x.0 ∷ x.1) × (x.0 ≤ 1000000000)) (magnitude_read ts)
  unfolding magnitude_read
  magnitude_gives ts = then_gives _ (digits_give ts) (λ n is. if_gives (nat_le n.0 1000000000) (λ le. gives (is, leb-true n.0 1000000000 le)) (λ not. stops range))

  number_taken : (ts : List Token) → Takes Fault IsNumber ts (number_read ts)
  unfolding number_read
  number_taken ts = found token.Minus ts _ _
      (λ rest. then_gives _ (magnitude_gives rest) (λ n is. taken (token.Digits n.0 ∷ []) is.0 (grammar.negative n.0 is.1)))
      (then_gives _ (magnitude_gives ts) (λ n is. taken (token.Digits n.0 ∷ []) is.0 (grammar.positive n.0 is.1)))

  positive_taken : (most : ℕ) → most ≤ 1000000000 → (ts : List Token) → Takes Fault (λ front n. IsNumber front (pos n) × (1 ≤ n) × (n ≤ most)) ts (positive_read most ts)
  unfolding positive_read
  positive_taken most le ts = found token.Minus ts _ _
      (λ rest. then_gives _ (digits_give rest) (λ n is. stops range))
      (then_gives _ (digits_give ts) (λ n is. if_gives (nat_le 1 n.0 && nat_le n.0 most)
      (λ both.
      let parts = and_parts (nat_le 1 n.0) (nat_le n.0 most) both in
      let high : n.0 ≤ most = leb-true n.0 most parts.1 in
      taken (token.Digits n.0 ∷ []) is (grammar.positive n.0 (omega arith), leb-true 1 n.0 parts.0, high))
      (λ not. stops range)))

  -- rows and names of tables

  pub row_taken : (ts : List Token) → Takes Fault (λ front row. IsRow front row.0 row.1) ts (row_read ts)
  unfolding row_read
  row_taken ts = behind_token unknown token.Open _ (λ a.
      behind _ (positive_taken 999999 (omega arith) a) (λ id is i b.
      behind_token unknown token.Comma _ (λ c.
      behind _ (number_taken c) (λ value vs v d.
      behind_token unknown token.Close _ (λ rest.
      taken [] refl (subst (λ (us : List Token). IsRow (token.Open ∷ us) id value) (append_assoc is (token.Comma ∷ vs) (token.Close ∷ [])) (grammar.row (grammar.named id i.0 i.1 i.2) v)))))))

  pub name_of_gives : (t : Token) (ts : List Token) → Gives Fault (λ x. t ∷ ts ≡ token.Name x.0 ∷ x.1) (name_of t ts)
  name_of_gives (token.Name n) ts = gives refl
  name_of_gives (token.Word w) ts = stops name
  name_of_gives token.OtherWord ts = stops name
  name_of_gives t ts = stops unknown

  name_gives : (ts : List Token) → Gives Fault (λ x. ts ≡ token.Name x.0 ∷ x.1) (name_read ts)
  unfolding name_read
  name_gives [] = stops unknown
  name_gives (t ∷ ts) = name_of_gives t ts

  pub nothing_gives : (ts : List Token) → Gives Fault (λ _. ts ≡ []) (nothing_read ts)
  nothing_gives ts = if_gives (length ts == 0) (λ none. gives (nil_from_length ts (eqb-true (length ts) 0 none))) (λ not. stops unknown)

  module _ (deep : Fault kinds.TooDeep) where
    -- comparisons, remainders and lists

    col_gives : (ts : List Token) → Gives Fault (λ x. ts ≡ col_token x.0 ∷ x.1) (col_read ts)
    unfolding col_read
    col_gives ts = found_gives (token.Word word.Id) ts _ _ (λ rest is. gives is) (then_gives _ (token_gives unknown (token.Word word.Value) ts) (λ rest is. gives is))

    cmp_gives : (ts : List Token) → Gives Fault (λ x. ts ≡ cmp_token x.0 ∷ x.1) (cmp_read ts)
    unfolding cmp_read
    cmp_gives (token.Equal ∷ ts) = gives refl
    cmp_gives (token.Unequal ∷ ts) = gives refl
    cmp_gives (token.Less ∷ ts) = gives refl
    cmp_gives (token.AtMost ∷ ts) = gives refl
    cmp_gives (token.Greater ∷ ts) = gives refl
    cmp_gives (token.AtLeast ∷ ts) = gives refl
    cmp_gives [] = stops unknown
    cmp_gives (t ∷ ts) = stops unknown

    numbers_taken : (ts : List Token) → Takes Fault IsNumbers ts (numbers_read ts)
    unfolding numbers_read
    numbers_taken ts = joined_taken (λ z. z ∷ []) number_read token.Comma one_more IsNumber IsNumbers number_taken (λ us z n. numbers.one n) (λ us rest zs z ns n. one_behind ns n) ts

    one_of_taken : (c : Col) (ts : List Token) → Takes Fault (λ front p. IsAtom (col_token c ∷ token.Word word.In ∷ front) p) ts (one_of_read c ts)
    unfolding one_of_read number_list_read
    one_of_taken c ts = made (λ zs. predicate.OneOf c zs)
        (behind_token unknown token.Open _ (λ a. found token.Close a _ _ (λ rest. taken [] refl (grammar.one_of c grammar.none))
        (behind _ (numbers_taken a) (λ zs ns n b. behind_token unknown token.Close _ (λ rest. taken [] refl (grammar.one_of c (are_list n)))))))
        (λ zs front is. is)

    remainder_taken : (c : Col) (ts : List Token) → Takes Fault (λ front p. IsAtom (col_token c ∷ token.Percent ∷ front) p) ts (remainder_read c ts)
    unfolding remainder_read
    remainder_taken c ts = behind _ (positive_taken 1000000 (omega arith) ts) (λ m ms p a.
        behind_token unknown token.Equal _ (λ b. made (λ r. predicate.Remainder c m r) (number_taken b) (λ r rs n. grammar.remainder c p.0 p.1 p.2 n)))

    compare_taken : (c : Col) (ts : List Token) → Takes Fault (λ front p. IsAtom (col_token c ∷ front) p) ts (compare_read c ts)
    unfolding compare_read
    compare_taken c ts = behind_spelled (λ m. cmp_token m ∷ []) _ (cmp_gives ts) (λ m rest. made (λ z. predicate.Compare c m z) (number_taken rest) (λ z ns n. grammar.compare c m n))

    atom_taken : (ts : List Token) → Takes Fault IsAtom ts (atom_read ts)
    unfolding atom_read
    atom_taken ts = behind_spelled (λ c. col_token c ∷ []) _ (col_gives ts) (λ c rest.
        found (token.Word word.In) rest _ _ (one_of_taken c) (found token.Percent rest _ _ (remainder_taken c) (compare_taken c rest)))

    -- predicates

    conj_taken : (d : ℕ) → ((ts : List Token) → Takes Fault (IsPred d N) ts (term_read d ts)) → (ts : List Token) → Takes Fault (IsPred d A) ts (conj_read d ts)
    unfolding conj_read
    conj_taken d terms ts = joined_taken (λ p. p) (term_read d) (token.Word word.And) predicate.And (IsPred d N) (IsPred d A) terms (λ us p i. grammar.one_factor i) (λ us rest p q i j. grammar.conjunction i j) ts

    pred_taken : (d : ℕ) → ((ts : List Token) → Takes Fault (IsPred d N) ts (term_read d ts)) → (ts : List Token) → Takes Fault (IsPred d P) ts (pred_read d ts)
    unfolding pred_read
    pred_taken d terms ts = joined_taken (λ p. p) (conj_read d) (token.Word word.Or) predicate.Or (IsPred d A) (IsPred d P) (conj_taken d terms) (λ us p i. grammar.one_member i) (λ us rest p q i j. grammar.disjunction i j) ts

    term_taken : (d : ℕ) (ts : List Token) → Takes Fault (IsPred d N) ts (term_read d ts)
    unfolding term_read pred_read conj_read
    term_taken zero ts = found (token.Word word.Not) ts _ _ (λ rest. stops deep) (found token.Open ts _ _ (λ rest. stops deep) (each_taken (atom_taken ts) (λ front p is. grammar.atom is)))
    term_taken (suc d) ts = found (token.Word word.Not) ts _ _ (λ rest. made predicate.Not (term_taken d rest) (λ p us is. grammar.negation is))
        (found token.Open ts _ _ (λ rest. behind _ (pred_taken d (term_taken d) rest) (λ p us is left. behind_token unknown token.Close _ (λ end. taken [] refl (grammar.parenthesized is))))
        (each_taken (atom_taken ts) (λ front p is. grammar.atom is)))

    where_taken : (ts : List Token) → Takes Fault IsWhere ts (where_read ts)
    unfolding where_read
    where_taken ts = found (token.Word word.Where) ts _ _ (λ rest. made Some (pred_taken 16 (term_taken 16) rest) (λ p us is. grammar.where_pred is)) (taken [] refl grammar.without)

    -- statements

    expr_taken : (ts : List Token) → Takes Fault IsExpr ts (expr_read ts)
    unfolding expr_read
    expr_taken ts = found (token.Word word.Value) ts _ _
        (λ rest. found token.Plus rest _ _ (λ behind. made expr.Plus (number_taken behind) (λ z ns n. grammar.plus n))
        (behind_token unknown token.Minus _ (λ behind. made expr.Minus (number_taken behind) (λ z ns n. grammar.minus n))))
        (made expr.Set (number_taken ts) (λ z ns n. grammar.set n))

    select_taken : (ts : List Token) → Takes Fault (λ back. IsStatement (token.Word word.Select ∷ back)) ts (select_read ts)
    unfolding select_read
    select_taken ts = behind_tokens unknown (token.Star ∷ token.Word word.From ∷ []) _ (λ a.
        behind_spelled (λ table. token.Name table ∷ []) _ (name_gives a) (λ table b.
        made (λ p. over table (kind.Select p)) (where_taken b) (λ p ws w. grammar.select table w)))

    update_taken : (ts : List Token) → Takes Fault (λ back. IsStatement (token.Word word.Update ∷ back)) ts (update_read ts)
    unfolding update_read
    update_taken ts = behind_spelled (λ table. token.Name table ∷ []) _ (name_gives ts) (λ table a.
        behind_tokens unknown (token.Word word.Set ∷ token.Word word.Value ∷ token.Equal ∷ []) _ (λ b.
        behind _ (expr_taken b) (λ e es i c.
        made (λ p. over table (kind.Update e p)) (where_taken c) (λ p ws w. grammar.update table i w))))

    insert_taken : (ts : List Token) → Takes Fault (λ back. IsStatement (token.Word word.Insert ∷ back)) ts (insert_read ts)
    unfolding insert_read
    insert_taken ts = behind_token unknown (token.Word word.Into) _ (λ a.
        behind_spelled (λ table. token.Name table ∷ []) _ (name_gives a) (λ table b.
        behind_tokens unknown (token.Open ∷ token.Word word.Id ∷ token.Comma ∷ token.Word word.Value ∷ token.Close ∷ token.Word word.Values ∷ []) _ (λ c.
        made (λ row. over table (kind.Insert row.0 row.1)) (row_taken c) (λ row rs r. grammar.insert table r))))

    delete_taken : (ts : List Token) → Takes Fault (λ back. IsStatement (token.Word word.Delete ∷ back)) ts (delete_read ts)
    unfolding delete_read
    delete_taken ts = behind_token unknown (token.Word word.From) _ (λ a.
        behind_spelled (λ table. token.Name table ∷ []) _ (name_gives a) (λ table b.
        made (λ p. over table (kind.Delete p)) (where_taken b) (λ p ws w. grammar.delete table w)))

    pub statement_taken : (ts : List Token) → Takes Fault IsStatement ts (statement_read ts)
    unfolding statement_read
    statement_taken ts = found (token.Word word.Select) ts _ _ select_taken (found (token.Word word.Update) ts _ _ update_taken
        (found (token.Word word.Insert) ts _ _ insert_taken (behind_token unknown (token.Word word.Delete) _ delete_taken)))

    pub end_gives : (ts : List Token) → Gives Fault (λ rest. ((ts ≡ []) × (rest ≡ [])) ⊎ (ts ≡ token.Semicolon ∷ rest)) (end_read ts)
    unfolding end_read
    end_gives ts = found_gives token.Semicolon ts _ _ (λ rest is. gives (inr is)) (then_gives _ (nothing_gives ts) (λ end none. gives (inl (none, none))))

    pub whole_gives : (ts : List Token) → (BeginsLongStatement ts → Fault kinds.TooLong) → Gives Fault (IsWholeStatement ts) (whole_statement_read ts)
    unfolding whole_statement_read
    whole_gives ts long = then_gives _ (statement_taken ts) (λ s h. then_gives _ (end_gives s.1) (λ rest end.
        if_gives (nat_le (length (printed_statement s.0)) max_statement_bytes)
        (λ short. then_gives _ (nothing_gives rest) (λ _ none.
        gives (record { parts = (h.front, s.1, h.text, h.is, end_is s.1 rest end none); printed = leb-true _ _ short })))
        (λ over. stops (long (record { statement = s.0; front = h.front; behind = s.1; whole = h.text; spelled = h.is; long = leb-false _ _ over })))))
