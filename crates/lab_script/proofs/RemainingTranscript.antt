-- What a run holds in the end, from what it holds now and the lines that are left: each step of the run keeps it.
use Rattle.lab_script.proofs.Common.{◌≡◌, ℕ, ◌+◌, Bool, true, cond, not, List, [], ◌∷◌, ◌++◌, Option, refl, sym, ap, ◌∙◌, append_assoc, ◌&&◌, Table, Statement, Line, PrintFault, Transaction, inside_after, is_begin, transaction_of, transactions, body_of, table_after, transaction_text, serial_text, TranscriptView, shown_of, shown, first_broken, limit_broken}
use Rattle.std.specs.Option.{option_or}

-- a transcript to which transactions are told from a table, after so many
abbrev pub output_on : ℕ → TranscriptView → Table → List Transaction → TranscriptView
output_on n output table txns = record {
  text = output.text ++ serial_text (n + 1) table txns;
  unprintable = first_broken output.unprintable (shown table txns);
}

-- the end of a run, from the lines that are left
abbrev pub output_by : ℕ → TranscriptView → Table → (ℕ → Bool) → List Line → TranscriptView
output_by n output table inside lines = output_on n output table (transactions inside lines)

-- the first limit that two lists of statements break
first_broken_append : (before : Option PrintFault) (a b : List Statement) → first_broken before (a ++ b) ≡ first_broken (first_broken before a) b
first_broken_append before [] b = refl
first_broken_append before (s ∷ a) b = first_broken_append (option_or before (limit_broken s)) a b

-- where a transaction has been told, the others are
output_first : (n : ℕ) (output next : TranscriptView) (table new : Table) (txn : Transaction) (txns : List Transaction) → next.text ≡ output.text ++ transaction_text (n + 1) table txn
    → next.unprintable ≡ first_broken output.unprintable (shown_of table txn.statements) → new ≡ table_after table txn
    → output_on (n + 1) next new txns ≡ output_on n output table (txn ∷ txns)
output_first n output next table new txn txns text broken left =
    let after : Table = table_after table txn in
    let rest : List ℕ = serial_text (n + 1 + 1) after txns in
    let at_new : output_on (n + 1) next new txns ≡ output_on (n + 1) next after txns = ap (λ (t : Table). output_on (n + 1) next t txns) left in
    let e : output_on (n + 1) next after txns ≡ output_on n output table (txn ∷ txns) = λ i. record {
      text = (ap (λ (x : List ℕ). x ++ rest) text ∙ append_assoc output.text (transaction_text (n + 1) table txn) rest) i;
      unprintable = (ap (λ (b : Option PrintFault). first_broken b (shown after txns)) broken ∙ sym (first_broken_append output.unprintable (shown_of table txn.statements) (shown after txns))) i;
    } in
    at_new ∙ e

-- a line that begins a transaction, which has been told
pub transaction_line : (n : ℕ) (output : TranscriptView) (table : Table) (inside : ℕ → Bool) (line : Line) (rest later : List Line) (total : TranscriptView)
    → output_by n output table inside rest ≡ total → rest ≡ line ∷ later → (is_begin line.command && not (inside line.session)) ≡ true → (next : TranscriptView) (new : Table)
    → next.text ≡ output.text ++ transaction_text (n + 1) table (transaction_of line.session later)
    → next.unprintable ≡ first_broken output.unprintable (shown_of table (body_of line.session later).0) → new ≡ table_after table (transaction_of line.session later)
    → output_by (n + 1) next new (inside_after inside line.session line.command) later ≡ total
transaction_line n output table inside line rest later total so_far here is next new text broken left =
    let others = transactions (inside_after inside line.session line.command) later in
    output_first n output next table new (transaction_of line.session later) others text broken left
    ∙ sym (ap (λ (b : Bool). output_on n output table ((cond b (transaction_of line.session later ∷ []) []) ++ others)) is)
    ∙ ap (output_by n output table inside) (sym here) ∙ so_far
