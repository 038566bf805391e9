-- A setup of the grammar is read.
use Rattle.lab_script.proofs.Common.{from_entries_push, rows_total, rows_apart, ◌≡◌, ℕ, zero, suc, ◌+◌, ◌<◌, ◌≤◌, true, List, [], ◌∷◌, ◌++◌, length, None, sym, ap, refl, subst, ◌∙◌, append_assoc, arith, test_name, Token, Reads, row_table_read, named_row_read, row_onto_read, repeated_read, rows_read, table_read, setup_end_read, setup_read, reads_is, ℤ, Row, row_cmp, IsRow, IsId, IsEnd, IsNamedRow, IsRows, IsRowList, IsSetup, AllDistinct, find, le-leb, length-append, Table, printed_setup, after, no_rows_at, begins_setup}
use Rattle.lab_statement.proofs.{ReadRows.{row_again, parts_of}, AtomParts.{no_close}}
use Rattle.lab_script.proofs.DistinctRows.{not_before, is_absent, table_of}
use Rattle.lab_statement.specs.declared.token.Token.TheVariants as token
use Rattle.lab_statement.specs.Grammar as grammar
use Rattle.lab_script.specs.Grammar as line_grammar

-- no word stands before a row without a name
unnamed_table : {ts : List Token} {id : ℕ} {value : ℤ} → IsRow ts id value → (rest : List Token) → row_table_read (ts ++ rest) ≡ Reads (test_name, ts ++ rest)
unfolding row_table_read
unnamed_table (grammar.row i v) rest = refl

-- a row of a setup of the grammar is read, whatever follows it
pub named_row_again : {ts : List Token} {row : Row} {value : ℤ} → IsNamedRow ts row value → (rest : List Token) → named_row_read (ts ++ rest) ≡ Reads ((row, value), rest)
unfolding named_row_read row_table_read
named_row_again (line_grammar.unnamed h) rest = rw (unnamed_table h rest, row_again h rest) refl
named_row_again (line_grammar.named table h) rest = rw (row_again h rest) refl

-- what is in the grammar is read

-- a row of the grammar is added to those before it, whatever follows it
row_onto_again : {ts : List Token} {id : Row} {value : ℤ} → IsNamedRow ts id value → (before : List (Row × ℤ)) → find row_cmp id before ≡ None → (rest : List Token)
    → row_onto_read (table_of before) (ts ++ rest) ≡ Reads (table_of (before ++ (id, value) ∷ []), rest)
unfolding row_onto_read
row_onto_again {ts} {id} {value} h before none rest =
    rw (row_onto_read, named_row_again h rest, is_absent before id none) (ap (λ (t : Table). Reads (t, rest)) (sym (from_entries_push rows_total rows_apart before id value none)))

-- rows of the grammar are added to those before them, where no row comes twice
rows_again : {ts : List Token} {rows : List (Row × ℤ)} → IsRows ts rows → (before : List (Row × ℤ)) → AllDistinct (before ++ rows) → (end : List Token) → after token.Comma end ≡ None
    → (k : ℕ) → length (ts ++ end) < k → repeated_read k row_onto_read (after token.Comma) (table_of before) (ts ++ end) ≡ Reads (table_of (before ++ rows), end)
unfolding repeated_read
rows_again h before all end none zero lt = absurd (omega (arith, lt))
rows_again (line_grammar.last {ts} {row} {value} h) before all end none (suc k) lt =
    rw (repeated_read, row_onto_again h before (not_before before [] (row, value) all) end, none) refl
rows_again (line_grammar.more {ts} {rest} {row} {value} {rows} h hs) before all end none (suc k) lt =
    let text : ts ++ token.Comma ∷ rest ++ end ≡ ts ++ (token.Comma ∷ (rest ++ end)) = append_assoc ts (token.Comma ∷ rest) end in
    let listed : before ++ (row, value) ∷ rows ≡ before ++ (row, value) ∷ [] ++ rows = sym (append_assoc before ((row, value) ∷ []) rows) in
    let long : length (ts ++ token.Comma ∷ rest ++ end) ≡ length ts + suc (length (rest ++ end)) = ap length text ∙ length-append ts (token.Comma ∷ (rest ++ end)) in
    let next = rows_again hs (before ++ (row, value) ∷ []) (subst AllDistinct listed all) end none k (omega (arith, lt, long)) in
    rw (text, repeated_read, row_onto_again h before (not_before before rows (row, value) all) (token.Comma ∷ (rest ++ end))) (next ∙ ap (λ (l : List (Row × ℤ)). Reads (table_of l, end)) (sym listed))

id_no_close : {ts : List Token} {id : ℕ} → IsId ts id → (rest : List Token) → after token.Close (ts ++ rest) ≡ None
id_no_close (grammar.named id number low high) rest = no_close number rest

-- what begins with a row isn't the parentheses of no row
row_shown : {ts : List Token} {id : ℕ} {value : ℤ} → IsRow ts id value → (rest : List Token) → no_rows_at (ts ++ rest) ≡ None
unfolding no_rows_at
row_shown (grammar.row {is} {vs} i v) rest = rw (parts_of is vs rest) (id_no_close i (token.Comma ∷ (vs ++ token.Close ∷ rest)))

named_row_shown : {ts : List Token} {row : Row} {value : ℤ} → IsNamedRow ts row value → (rest : List Token) → no_rows_at (ts ++ rest) ≡ None
unfolding no_rows_at
named_row_shown (line_grammar.unnamed h) rest = row_shown h rest
named_row_shown (line_grammar.named table h) rest = refl

rows_shown : {ts : List Token} {rows : List (Row × ℤ)} → IsRows ts rows → (end : List Token) → no_rows_at (ts ++ end) ≡ None
rows_shown (line_grammar.last h) end = named_row_shown h end
rows_shown (line_grammar.more {ts} {rest} h hs) end = ap no_rows_at (append_assoc ts (token.Comma ∷ rest) end) ∙ named_row_shown h (token.Comma ∷ rest ++ end)

no_comma : (end : List Token) → IsEnd end → after token.Comma end ≡ None
no_comma _ grammar.open_end = refl
no_comma _ grammar.semicolon = refl

-- the rows of a setup are read as their table
table_again : {ts : List Token} {rows : List (Row × ℤ)} → IsRowList ts rows → AllDistinct rows → (end : List Token) → IsEnd end → table_read (ts ++ end) ≡ Reads (table_of rows, end)
unfolding table_read rows_read no_rows_at
table_again line_grammar.none all end e = refl
table_again (line_grammar.some {ts} {rows} h) all end e = rw (table_read, rows_shown h end) (rows_again h [] all end (no_comma end e) (suc (length (ts ++ end))) (omega arith))

end_again : (table : Table) (end : List Token) → IsEnd end → length (printed_setup table) ≤ 4000 → setup_end_read table end ≡ Reads tt
unfolding setup_end_read
end_again table _ grammar.open_end short = rw (le-leb (length (printed_setup table)) 4000 short) refl
end_again table _ grammar.semicolon short = rw (le-leb (length (printed_setup table)) 4000 short) refl

-- a setup of the grammar is read as its table
pub setup_again : {ts : List Token} {table : Table} → IsSetup ts table → setup_read ts ≡ Reads table
unfolding setup_read
setup_again (line_grammar.setup {ts} {end} {rows} h all e short) = rw (table_again h all end e, end_again (table_of rows) end e short) refl

-- what the grammar says of setups

-- tokens spell at most one table
pub setup_once : {ts : List Token} {t u : Table} → IsSetup ts t → IsSetup ts u → t ≡ u
setup_once {ts} {t} {u} h k = reads_is t u (sym (setup_again h) ∙ setup_again k)

-- a setup begins with its word
pub setup_begins : {ts : List Token} {t : Table} → IsSetup ts t → begins_setup ts ≡ true
setup_begins (line_grammar.setup h all e short) = refl

-- the printed line of a setup is within its limit
pub setup_short : {ts : List Token} {t : Table} → IsSetup ts t → length (printed_setup t) ≤ 4000
setup_short (line_grammar.setup h all e short) = short
