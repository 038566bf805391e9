-- What is read as a setup is in the grammar, and reading stops with few kinds of faults.
use Rattle.lab_script.proofs.Common.{from_entries_push, rows_total, rows_apart, ◌≡◌, ◌⊎◌, ℕ, zero, suc, ◌<◌, ◌≤◌, List, [], ◌∷◌, ◌++◌, length, Option, Some, None, refl, sym, ap, subst, ◌∙◌, append_assoc, inl, inr, ℤ, nat_le, find, contains_key, empty, leb-true, leb-false, Row, row_cmp, numbered, Table, test_name, Token, ScriptFaultKind, IsEnd, after, Reads, ◌>>=◌, if_found, row_read, no_rows_at, is_word, Gives, gives, stops, Takes, then_gives, each_gives, if_gives, found_gives, further, made, token_gives, row_taken, name_of_gives, nothing_gives, row_table_read, named_row_read, row_onto_read, repeated_read, rows_read, table_read, setup_end_read, setup_read, setup_ended, IsNamedRow, IsRows, IsRowList, IsSetup, AllDistinct, max_line_bytes, printed_setup, BeginsLongSetup}
use Rattle.lab_table.specs.declared.word.Word.TheVariants as word
use Rattle.lab_statement.specs.declared.token.Token.TheVariants as token
use Rattle.lab_statement.specs.declared.fault.ScriptFaultKind.TheVariants as kinds
use Rattle.lab_statement.specs.Grammar as statement
use Rattle.lab_statement.proofs.SameTokens.{after_is}
use Rattle.lab_script.specs.Grammar as grammar
use Rattle.lab_script.proofs.DistinctRows.{table_of, absent_from, pushed_distinct}

-- a row's table is that of the word before it, or `test`
abbrev IsRowTable : List Token → List ℕ → List Token → Type 0
IsRowTable ts table rest = (ts ≡ token.Name table ∷ rest) ⊎ ((table ≡ test_name) × (rest ≡ ts))

abbrev IsRowOf : List Token → Row × ℤ → Type 0
IsRowOf front row = IsNamedRow front row.0 row.1

-- a row at the front that is added to those before it
record RowAdded (before : List (Row × ℤ)) (ts : List Token) (x : Table × List Token) : Type 0 where
  row : Row × ℤ
  front : List Token
  text : ts ≡ front ++ x.1
  spelled : IsRowOf front row
  absent : find row_cmp row.0 before ≡ None
  table : x.0 ≡ table_of (before ++ row ∷ [])

-- rows at the front that are added to those before them
record RowsAdded (before : List (Row × ℤ)) (ts : List Token) (x : Table × List Token) : Type 0 where
  rows : List (Row × ℤ)
  front : List Token
  text : ts ≡ front ++ x.1
  spelled : IsRows front rows
  distinct : AllDistinct (before ++ rows)
  table : x.0 ≡ table_of (before ++ rows)

-- the rows of a setup at the front, and their table
record TableTaken (ts : List Token) (x : Table × List Token) : Type 0 where
  rows : List (Row × ℤ)
  front : List Token
  text : ts ≡ front ++ x.1
  spelled : IsRowList front rows
  distinct : AllDistinct rows
  table : x.0 ≡ table_of rows

-- a row, a comma and the rows behind it
more_added : (before : List (Row × ℤ)) (ts rest : List Token) (x y : Table × List Token) (r : RowAdded before ts y) → y.1 ≡ token.Comma ∷ rest
    → RowsAdded (before ++ r.row ∷ []) rest x → RowsAdded before ts x
more_added before ts rest x y r comma s =
    let listed : before ++ r.row ∷ [] ++ s.rows ≡ before ++ r.row ∷ s.rows = append_assoc before (r.row ∷ []) s.rows in
    record {
      rows = r.row ∷ s.rows;
      front = r.front ++ token.Comma ∷ s.front;
      text = r.text ∙ ap (λ (u : List Token). r.front ++ u) (comma ∙ ap (λ (u : List Token). token.Comma ∷ u) s.text) ∙ sym (append_assoc r.front (token.Comma ∷ s.front) x.1);
      spelled = grammar.more r.spelled s.spelled;
      distinct = subst AllDistinct listed s.distinct;
      table = s.table ∙ ap table_of listed;
    }

-- the parentheses of no row
no_rows_are : (ts rest : List Token) → no_rows_at ts ≡ Some rest → ts ≡ token.Open ∷ token.Close ∷ rest
unfolding no_rows_at
no_rows_are ts rest e = opened (after token.Open ts) refl e
  where
    opened : (o : Option (List Token)) → after token.Open ts ≡ o → if_found o (λ us. after token.Close us) None ≡ Some rest → ts ≡ token.Open ∷ token.Close ∷ rest
    opened (Some us) is h = after_is token.Open ts us is ∙ ap (λ (u : List Token). token.Open ∷ u) (after_is token.Close us rest h)
    opened None is h = absurd cc

module _ {Fault : ScriptFaultKind → Type 0} (unknown : Fault kinds.UnknownStatement) (name : Fault kinds.BadTableName) (range : Fault kinds.NumberOutOfRange) (twice : Fault kinds.DuplicateSetupRow) where
  row_table_gives : (ts : List Token) → Gives Fault (λ x. IsRowTable ts x.0 x.1) (row_table_read ts)
  unfolding row_table_read
  row_table_gives [] = gives (inr (refl, refl))
  row_table_gives (t ∷ ts) = if_gives (is_word t) (λ word. each_gives (name_of_gives unknown name range t ts) (λ x is. inl is)) (λ not. gives (inr (refl, refl)))

  -- a row behind its table
  behind_table : (ts : List Token) (table : List ℕ) (rest : List Token) → IsRowTable ts table rest → Takes Fault IsRowOf ts (row_read rest >>= λ r. Reads ((numbered table r.0.0, r.0.1), r.1))
  behind_table ts table rest (inl named) = further (token.Name table ∷ []) named (made (λ r. (numbered table r.0, r.1)) (row_taken unknown name range rest) (λ r front is. grammar.named table is))
  behind_table ts table rest (inr (test, same)) = rw (test, same) (made (λ r. (numbered test_name r.0, r.1)) (row_taken unknown name range ts) (λ r front is. grammar.unnamed is))

  named_row_taken : (ts : List Token) → Takes Fault IsRowOf ts (named_row_read ts)
  unfolding named_row_read
  named_row_taken ts = then_gives _ (row_table_gives ts) (λ x is. behind_table ts x.0 x.1 is)

  row_onto_gives : (before : List (Row × ℤ)) (ts : List Token) → Gives Fault (RowAdded before ts) (row_onto_read (table_of before) ts)
  unfolding row_onto_read
  row_onto_gives before ts = then_gives _ (named_row_taken ts) (λ x h. if_gives (contains_key (table_of before) x.0.0) (λ is. stops twice) (λ isnt.
      let none = absent_from before x.0.0 isnt in
      gives (record { row = x.0; front = h.front; text = h.text; spelled = h.is; absent = none; table = sym (from_entries_push rows_total rows_apart before x.0.0 x.0.1 none) })))

  -- rows, of which none comes twice
  rows_give : (k : ℕ) (before : List (Row × ℤ)) (ts : List Token) → AllDistinct before → Gives Fault (RowsAdded before ts) (repeated_read k row_onto_read (after token.Comma) (table_of before) ts)
  unfolding repeated_read
  rows_give zero before ts all = stops unknown
  rows_give (suc k) before ts all = then_gives _ (row_onto_gives before ts) (λ y r.
      let distinct = pushed_distinct before r.row all r.absent in
      found_gives token.Comma y.1 _ _
      (λ rest comma. each_gives
      (subst (λ (t : Table). Gives Fault (RowsAdded (before ++ r.row ∷ []) rest) (repeated_read k row_onto_read (after token.Comma) t rest)) (sym r.table) (rows_give k (before ++ r.row ∷ []) rest distinct))
      (λ x s. more_added before ts rest x y r comma s))
      (gives (record { rows = r.row ∷ []; front = r.front; text = r.text; spelled = grammar.last r.spelled; distinct = distinct; table = r.table })))

  table_gives : (ts : List Token) → Gives Fault (TableTaken ts) (table_read ts)
  unfolding table_read rows_read
  table_gives ts = chosen (no_rows_at ts) refl
    where
      chosen : (o : Option (List Token)) → no_rows_at ts ≡ o → Gives Fault (TableTaken ts) (if_found o (λ rest. Reads (empty, rest)) (rows_read ts))
      chosen None is = each_gives (rows_give (suc (length ts)) [] ts tt) (λ x r. record { rows = r.rows; front = r.front; text = r.text; spelled = grammar.some r.spelled; distinct = r.distinct; table = r.table })
      chosen (Some rest) is = gives (record { rows = []; front = token.Open ∷ token.Close ∷ []; text = no_rows_are ts rest is; spelled = grammar.none; distinct = tt; table = refl })

  -- the end of a setup that keeps the limit of a line
  setup_end_gives : (table : Table) → (max_line_bytes < length (printed_setup table) → Fault kinds.TooLong) → (ts : List Token)
      → Gives Fault (λ _. IsEnd ts × (length (printed_setup table) ≤ max_line_bytes)) (setup_end_read table ts)
  unfolding setup_end_read
  setup_end_gives table long ts = found_gives token.Semicolon ts _ _
      (λ rest is. each_gives (ended rest) (λ end both. (subst IsEnd (sym (is ∙ ap (λ (u : List Token). token.Semicolon ∷ u) both.0)) statement.semicolon, both.1)))
      (then_gives _ (nothing_gives unknown name range ts) (λ _ none. each_gives (ended ts) (λ end both. (subst IsEnd (sym none) statement.open_end, both.1))))
    where
      ended : (rest : List Token) → Gives Fault (λ _. (rest ≡ []) × (length (printed_setup table) ≤ max_line_bytes)) (setup_ended table rest)
      ended rest = if_gives (nat_le (length (printed_setup table)) max_line_bytes)
          (λ short. each_gives (nothing_gives unknown name range rest) (λ end none. (none, leb-true _ _ short)))
          (λ over. stops (long (leb-false _ _ over)))

  -- what is read as a setup is one of the grammar, and one that is too long is one
  pub setup_gives : (ts : List Token) → (BeginsLongSetup ts → Fault kinds.TooLong) → Gives Fault (IsSetup ts) (setup_read ts)
  unfolding setup_read
  setup_gives ts long = then_gives _ (token_gives unknown (token.Word word.Setup) ts) (λ rest first. then_gives _ (table_gives rest) (λ x t.
      let text : ts ≡ token.Word word.Setup ∷ t.front ++ x.1 = first ∙ ap (λ (u : List Token). token.Word word.Setup ∷ u) t.text in
      let within = λ (limit : Table → Type 0) (h : limit x.0). subst limit t.table h in
      then_gives _ (setup_end_gives x.0 (λ over. long (record {
        rows = t.rows;
        front = t.front;
        behind = x.1;
        whole = text;
        spelled = t.spelled;
        distinct = t.distinct;
        long = within (λ u. max_line_bytes < length (printed_setup u)) over;
      })) x.1) (λ end ended.
      gives (subst (λ (us : List Token). IsSetup us x.0) (sym text) (subst (IsSetup (token.Word word.Setup ∷ t.front ++ x.1)) (sym t.table)
      (grammar.setup t.spelled t.distinct ended.0 (within (λ u. length (printed_setup u) ≤ max_line_bytes) ended.1)))))))
