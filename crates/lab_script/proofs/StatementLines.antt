-- The line of a statement, and the table that it leaves, from what running it answers.
use Rattle.lab_script.proofs.Common.{◌≡◌, ℕ, ℤ, ◌≢◌, List, ◌++◌, Option, Some, None, refl, sym, ap, ◌∙◌, append_assoc, option_map, codes, Row, Table, Statement, printed_statement, printed_row_name, newline, rows_or, row_text, kind_refusal_text, refusal_text, answer_text, statement_text, table_with, fault_text}
use Rattle.lab_table.specs.{Statement.{Ran, kind_run, run}, Running.{Gives, IsKindFault, IsFault}, declared.{statement.StatementKind.{StatementKind, TheVariants.{Select, Update, Insert, Delete}}, table.TableFault.{TableFault, TheVariants.{NoMemory, DuplicateKey, OutOfRange}}}}
use Rattle.lab_table.proofs.Running.{fault_is_due}

-- a statement that runs lists its rows
gives_text : (s : Statement) (t new : Table) (r : Option Ran) (rows : List (Row × ℤ)) → Gives r rows new → rows_or (codes "none") rows ≡ answer_text s t r
gives_text s t new None rows h = absurd h
gives_text s t new (Some ran) rows h = ap (rows_or (codes "none")) h.0

-- and leaves its table
gives_table : (new : Table) (r : Option Ran) (rows : List (Row × ℤ)) → Gives r rows new → option_map (λ ran. ran.table) r ≡ Some new
gives_table new None rows h = absurd h
gives_table new (Some ran) rows h = ap Some (sym h.1)

-- a statement that a table refuses doesn't run, and the fault is why
kind_refused : (table : List ℕ) (s : StatementKind) (t : Table) (fault : TableFault) → IsKindFault table s t fault → fault ≢ NoMemory
    → (kind_run table s t ≡ None) × (fault_text fault ≡ kind_refusal_text table s t)
kind_refused table s t NoMemory h n = absurd (n refl)
kind_refused table (Insert id new) t (DuplicateKey row) h n = (fault_is_due table (Insert id new) t (DuplicateKey row) h, ap (λ x. codes "DuplicateKey " ++ printed_row_name x) h.0)
kind_refused table (Select p) t (DuplicateKey row) h n = absurd h
kind_refused table (Update e p) t (DuplicateKey row) h n = absurd h
kind_refused table (Delete p) t (DuplicateKey row) h n = absurd h
kind_refused table (Update e p) t (OutOfRange row) h n = (fault_is_due table (Update e p) t (OutOfRange row) h, ap (λ x. codes "OutOfRange " ++ row_text x) (sym h))
kind_refused table (Select p) t (OutOfRange row) h n = absurd h
kind_refused table (Insert id new) t (OutOfRange row) h n = absurd h
kind_refused table (Delete p) t (OutOfRange row) h n = absurd h

refused : (s : Statement) (t : Table) (fault : TableFault) → IsFault s t fault → fault ≢ NoMemory → (run s t ≡ None) × (fault_text fault ≡ refusal_text s t)
refused s t fault h n = kind_refused s.table s.kind t fault h n

spread : (a p q r s : List ℕ) → ((a ++ (p ++ q)) ++ r) ++ s ≡ a ++ (((p ++ q) ++ r) ++ s)
spread a p q r s = simp append_assoc

-- a statement's line, put in two pieces
line_of : (s : Statement) (t : Table) (a b c answer : List ℕ) → b ≡ a ++ (printed_statement s ++ codes " -> ")
    → c ≡ b ++ answer ++ newline → answer ≡ answer_text s t (run s t) → c ≡ a ++ statement_text s t
unfolding statement_text
line_of s t a b c answer p q same =
    q ∙ ap (λ x. x ++ answer ++ newline) p ∙ spread a (printed_statement s) (codes " -> ") answer newline
    ∙ ap (λ x. a ++ (((printed_statement s ++ codes " -> ") ++ x) ++ newline)) same

pub line_of_rows : (s : Statement) (t new : Table) (rows : List (Row × ℤ)) (a b c : List ℕ) → b ≡ a ++ (printed_statement s ++ codes " -> ") → c ≡ b ++ rows_or (codes "none") rows ++ newline
    → Gives (run s t) rows new → c ≡ a ++ statement_text s t
line_of_rows s t new rows a b c p q h = line_of s t a b c (rows_or (codes "none") rows) p q (gives_text s t new (run s t) rows h)

pub line_of_fault : (s : Statement) (t : Table) (fault : TableFault) (a b c : List ℕ) → b ≡ a ++ (printed_statement s ++ codes " -> ") → c ≡ b ++ fault_text fault ++ newline
    → IsFault s t fault → fault ≢ NoMemory → c ≡ a ++ statement_text s t
line_of_fault s t fault a b c p q h n = let why = refused s t fault h n in line_of s t a b c (fault_text fault) p q (why.1 ∙ ap (answer_text s t) (sym why.0))

pub with_rows : (s : Statement) (t new : Table) (rows : List (Row × ℤ)) → Gives (run s t) rows new → table_with s t ≡ Some new
unfolding table_with
with_rows s t new rows h = gives_table new (run s t) rows h

pub with_fault : (s : Statement) (t : Table) (fault : TableFault) → IsFault s t fault → fault ≢ NoMemory → table_with s t ≡ None
unfolding table_with
with_fault s t fault h n = ap (option_map (λ ran. ran.table)) (refused s t fault h n).0
