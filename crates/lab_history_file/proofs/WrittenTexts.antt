-- The compact texts of the values of a history's file, piece by piece.
use Rattle.std.{proofs.Common.{◌≡◌, ℕ, true, List, [], ◌∷◌, ◌++◌, refl, ap, ◌∙◌, append_assoc}, specs.{Prelude.{ℤ, pos, negsuc, codes}, Fmt.{signed_decimal}}}
unfoldable use Rattle.json.specs.Print.{escape_byte}
unfoldable use Rattle.std.specs.Fmt.{digits}
use Rattle.json.specs.Print.{escape, quoted}
use Rattle.serde_json.specs.Written.{compact_text}
use Rattle.lab_table.specs.{TableName.{is_table_name}, declared.statement.Statement.{Statement}}
use Rattle.lab_printing.specs.{Limits.{StatementPrints}, Printed.{printed_statement}, Ranges.{StatementInRange}}
use Rattle.lab_statement.proofs.PrintedStatements.{statement_spells}
use Rattle.lab_history.specs.{History.{History}, declared.{operation.Op.{Op}, transaction.{Txn.{Txn}, Outcome.{Outcome, TheVariants.{Committed, Aborted}}}}}
use Rattle.lab_history_file.{specs.{FileOf.{SpellsIn, outcome_text}, Tree.{natural_tree, value_tree, written_tree, list_tree, map_tree, view_tree, op_tree, txn_tree, tree_of}, declared.file_version.FileVersion.TheVariants.{Two}}, proofs.ClearTexts.{clear_escape, name_clear, statement_clear}}

-- a value's text is its number's
pub value_text : (z : ℤ) → compact_text (value_tree z) ≡ signed_decimal z
value_text (pos n) = refl
value_text (negsuc n) = refl

-- nothing is escaped in the name of a table, and in a printed statement
pub name_escape : (text : List ℕ) → is_table_name text ≡ true → escape text ≡ text
name_escape text named = clear_escape (name_clear text named)

pub printed_escape : (s : Statement) → StatementInRange s → escape (printed_statement s) ≡ printed_statement s
printed_escape s h = clear_escape (statement_clear s h.0)

-- one piece behind another
pub behind : (old front back : List ℕ) {middle new : List ℕ} → middle ≡ old ++ front → new ≡ middle ++ back → new ≡ old ++ (front ++ back)
behind old front back first second = second ∙ ap (λ (l : List ℕ). l ++ back) first ∙ append_assoc old front back

-- a printed statement spells it
pub printed_spells : (s : Statement) → StatementInRange s → StatementPrints s → SpellsIn Two (printed_statement s) s
printed_spells s h prints = record { spells = statement_spells s h prints; may = refl }

-- the objects
pub outcome_quoted : (outcome : Outcome) → quoted (outcome_text outcome) ≡ 34 ∷ (outcome_text outcome ++ 34 ∷ [])
unfolding escape_byte
outcome_quoted Committed = refl
outcome_quoted Aborted = refl

pub op_text : (op : Op) → compact_text (op_tree op)
    ≡ codes "{\"rows\":" ++ (compact_text (map_tree value_tree op.rows) ++ (codes ",\"statement\":" ++ (quoted (printed_statement op.statement)
    ++ (codes ",\"view\":" ++ (compact_text (view_tree op.view) ++ (codes ",\"writes\":" ++ (compact_text (map_tree written_tree op.writes) ++ codes "}")))))))
unfolding escape_byte
op_text op = refl

pub txn_text : (t : Txn) → compact_text (txn_tree t)
    ≡ codes "{\"no\":" ++ (compact_text (natural_tree t.no) ++ (codes ",\"ops\":" ++ (compact_text (list_tree op_tree t.ops) ++ (codes ",\"outcome\":" ++ (quoted (outcome_text t.outcome) ++ codes "}")))))
unfolding escape_byte
txn_text t = refl

pub file_text : (h : History) → compact_text (tree_of h)
    ≡ codes "{\"end\":" ++ (compact_text (map_tree value_tree h.end_table) ++ (codes ",\"format\":\"hermitage-history\",\"initial\":" ++ (compact_text (map_tree value_tree h.initial)
    ++ (codes ",\"installed\":" ++ (compact_text (map_tree (list_tree natural_tree) h.installed) ++ (codes ",\"transactions\":" ++ (compact_text (list_tree txn_tree h.txns) ++ codes ",\"version\":2}")))))))
unfolding escape_byte digits
file_text h = refl
