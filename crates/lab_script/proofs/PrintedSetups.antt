-- Printed setups.
use Rattle.lab_script.proofs.Common.{◌≡◌, ℕ, ◌≤◌, List, [], ◌∷◌, ◌++◌, length, refl, sym, ap, subst, ◌∙◌, append_assoc, arith, ℤ, Bool, true, false, if◌then◌else◌, codes, None, Some, list_all, Row, numbered, rows_total, rows_apart, table_name_eq, test_name, Table, Token, tokens, IsNamedRow, IsRows, IsRowList, IsSetup, joined, map, printed_row, printed_named_row, named_rows_or, printed_setup, code_of, LineSpells, Each, EntryInRange, setup_tables, plain_code, Leads, literal, leads_reads, leads_leads, cut_leads, mark_leads, reads_all, comma_leads, row_tokens, row_leads, row_fits}
use Rattle.std.specs.FinMap as finite
use Rattle.std.specs.Cmp.Lexicographic.{bytes_decides}
use Rattle.lab_table.specs.declared.word.Word.TheVariants as word
use Rattle.lab_statement.specs.declared.token.Token.TheVariants as token
use Rattle.lab_statement.proofs.{PrintedNames.{name_reads}, PrintedPreds.{open_leads, close_leads}}
use Rattle.lab_statement.specs.Grammar as grammar
use Rattle.lab_script.specs.Grammar as line_grammar
use Rattle.lab_script.proofs.DistinctRows.{sorted_distinct}
use Rattle.lab_statement.specs.Text as script
use Rattle.lab_script.specs.Script as text

-- the token of a table's name before a row, where it is printed
abbrev table_tokens : Bool → List ℕ → List Token
table_tokens true table = []
table_tokens false table = token.Name table ∷ []

-- the tokens of a printed row of a setup
abbrev pub named_row_tokens : Row → ℤ → List Token
named_row_tokens row z = table_tokens (table_name_eq row.table test_name) row.table ++ row_tokens row.id z

space_leads : Leads (codes " ") []
space_leads = literal (λ rest. refl) refl

-- a printed row of a setup has its tokens
named_row_leads : (row : Row) (z : ℤ) → EntryInRange (row, z) → Leads (printed_named_row (row, z)) (named_row_tokens row z)
named_row_leads row z h = at (table_name_eq row.table test_name)
  where
    at : (b : Bool) → Leads ((if b then [] else row.table ++ codes " ") ++ printed_row row.id z) (table_tokens b row.table ++ row_tokens row.id z)
    at true = row_leads row.id z h.1 h.2
    at false =
        leads_leads (row.table ++ codes " ") (printed_row row.id z) (token.Name row.table ∷ []) (row_tokens row.id z)
        (cut_leads row.table (codes " ") (token.Name row.table ∷ []) [] (name_reads row.table h.0) (λ rest. refl) space_leads) (row_leads row.id z h.1 h.2)

-- its tokens are in the grammar
named_row_fits : (row : Row) (z : ℤ) → EntryInRange (row, z) → IsNamedRow (named_row_tokens row z) row z
named_row_fits row z h = at (table_name_eq row.table test_name) refl
  where
    at : (b : Bool) → table_name_eq row.table test_name ≡ b → IsNamedRow (table_tokens b row.table ++ row_tokens row.id z) row z
    at true is = subst (λ t. IsNamedRow (row_tokens row.id z) (numbered t row.id) z) (sym ((bytes_decides row.table test_name).0 is)) (line_grammar.unnamed (row_fits row.id z h.1 h.2))
    at false is = line_grammar.named row.table (row_fits row.id z h.1 h.2)

-- the tokens of the rows of a printed setup
abbrev pub rows_tokens : List (Row × ℤ) → List Token
rows_tokens [] = token.Open ∷ token.Close ∷ []
rows_tokens (row ∷ []) = named_row_tokens row.0 row.1
rows_tokens (row ∷ next ∷ rows) = named_row_tokens row.0 row.1 ++ token.Comma ∷ rows_tokens (next ∷ rows)

-- one printed row or more have their tokens
joined_leads : (row : Row × ℤ) (rows : List (Row × ℤ)) → Each EntryInRange (row ∷ rows) → Leads (joined (map printed_named_row (row ∷ rows))) (rows_tokens (row ∷ rows))
joined_leads row [] r = named_row_leads row.0 row.1 r.0
joined_leads row (next ∷ rows) r =
    subst (Leads (joined (map printed_named_row (row ∷ next ∷ rows)))) (append_assoc (named_row_tokens row.0 row.1) (token.Comma ∷ []) (rows_tokens (next ∷ rows)))
    (leads_leads (printed_named_row row ++ codes ", ") (joined (map printed_named_row (next ∷ rows))) (named_row_tokens row.0 row.1 ++ token.Comma ∷ []) (rows_tokens (next ∷ rows))
    (leads_leads (printed_named_row row) (codes ", ") (named_row_tokens row.0 row.1) (token.Comma ∷ []) (named_row_leads row.0 row.1 r.0) comma_leads)
    (joined_leads next rows r.1))

-- the printed rows of a setup have their tokens
rows_lead : (rows : List (Row × ℤ)) → Each EntryInRange rows → Leads (named_rows_or (codes "()") rows) (rows_tokens rows)
rows_lead [] r = leads_leads (codes "(") (codes ")") (token.Open ∷ []) (token.Close ∷ []) open_leads close_leads
rows_lead (row ∷ rows) r = joined_leads row rows r

-- the tokens of one row or more are in the grammar
joined_fit : (row : Row × ℤ) (rows : List (Row × ℤ)) → Each EntryInRange (row ∷ rows) → IsRows (rows_tokens (row ∷ rows)) (row ∷ rows)
joined_fit row [] r = line_grammar.last (named_row_fits row.0 row.1 r.0)
joined_fit row (next ∷ rows) r = line_grammar.more (named_row_fits row.0 row.1 r.0) (joined_fit next rows r.1)

-- the tokens of the rows of a setup are in the grammar
rows_fit : (rows : List (Row × ℤ)) → Each EntryInRange rows → IsRowList (rows_tokens rows) rows
rows_fit [] r = line_grammar.none
rows_fit (row ∷ rows) r = line_grammar.some (joined_fit row rows r)

-- the map of a map's entries is the map
rows_again : (table : Table) → finite.from_entries (finite.entries table) ≡ table
rows_again table = finite.same_map rows_total rows_apart _ _ (λ q. finite.get-from_entries rows_total (finite.entries table) q ∙ sym (finite.get-entries table q))

-- the word and the mark round the rows have their tokens
setup_lead : Leads (codes "setup ") (token.Word word.Setup ∷ [])
setup_lead = literal (λ rest. refl) refl

semicolon_leads : Leads (codes ";") (token.Semicolon ∷ [])
semicolon_leads = mark_leads 59 token.Semicolon (λ rest. refl) (λ b. refl) refl

-- a printed setup has its tokens
pub setup_leads : (table : Table) → Each EntryInRange (finite.entries table) → Leads (printed_setup table) (token.Word word.Setup ∷ rows_tokens (finite.entries table) ++ token.Semicolon ∷ [])
setup_leads table r =
    leads_leads (codes "setup " ++ named_rows_or (codes "()") (finite.entries table)) (codes ";") (token.Word word.Setup ∷ rows_tokens (finite.entries table)) (token.Semicolon ∷ [])
    (leads_leads (codes "setup ") (named_rows_or (codes "()") (finite.entries table)) (token.Word word.Setup ∷ []) (rows_tokens (finite.entries table)) setup_lead (rows_lead (finite.entries table) r))
    semicolon_leads

-- the tokens of a printed setup are in the grammar
setup_fits : (table : Table) → Each EntryInRange (finite.entries table) → length (printed_setup table) ≤ 4000
    → IsSetup (token.Word word.Setup ∷ rows_tokens (finite.entries table) ++ token.Semicolon ∷ []) table
setup_fits table r le =
    subst (IsSetup (token.Word word.Setup ∷ rows_tokens (finite.entries table) ++ token.Semicolon ∷ [])) (rows_again table)
    (line_grammar.setup (rows_fit (finite.entries table) r) (sorted_distinct (finite.entries table) (finite.entries_sorted table)) grammar.semicolon
    (subst (λ (t : Table). length (printed_setup t) ≤ 4000) (sym (rows_again table)) le))

-- a printed setup gives its table
pub setup_spells : (table : Table) → Each EntryInRange (finite.entries table) → length (printed_setup table) ≤ 4000 → length (setup_tables table) ≤ 4
    → LineSpells 1 (printed_setup table) None (Some (record { setup = table; lines = [] }))
setup_spells table r le few =
    let leads = setup_leads table r in
    let code : code_of (printed_setup table) ≡ printed_setup table = plain_code (printed_setup table) leads.plain in
    let read : tokens (code_of (printed_setup table)) ≡ token.Word word.Setup ∷ rows_tokens (finite.entries table) ++ token.Semicolon ∷ [] =
    ap tokens code ∙ reads_all (printed_setup table) _ (leads_reads (printed_setup table) _ leads) in
    text.setup (record { lines = omega arith; bytes = le; ascii = ap (λ (t : List ℕ). list_all script.is_code_byte t) code ∙ leads.plain.ascii })
    (subst (λ (ts : List Token). IsSetup ts table) (sym read) (setup_fits table r le)) few
