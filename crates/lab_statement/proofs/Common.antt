-- The names that most proofs cite, passed on from one place.
pub use Rattle.std.proofs.Common.{Bool, Err, List, None, Ok, Option, Result, Some, [], ap, append-nil, append_assoc, arith, cond, drop, false, get_or, inl, inr, length, length-append, length-drop, map, min, not, refl, rules, subst, suc, sym, take, true, zero, ℕ, ⊎_elim, ◌%◌, ◌&&◌, ◌*◌, ◌++◌, ◌+◌, ◌-◌, ◌/◌, ◌<◌, ◌==◌, ◌∙◌, ◌∷◌, ◌≡◌, ◌≢◌, ◌≤◌, ◌⊎◌}
pub use Rattle.std.proofs.lemmas.Bool.{and_from, and_parts, cases_Bool, cases_lt, eq-eqb, eqb-true, false_from_ne_true, false≢true, le-leb, leb-false, leb-true, not-true}
pub use Rattle.std.proofs.lemmas.Bool.Decides.{nat_tests}
pub use Rattle.std.proofs.lemmas.Fmt.{decimal_by_steps, decimal_nonempty}
pub use Rattle.std.proofs.lemmas.Grind.{common_steps}
pub use Rattle.std.proofs.lemmas.List.{drop_all, drop_more, length-map, nil_from_length, take-append-drop, take_all, take_rest}
pub use Rattle.std.proofs.lemmas.List.Folds.{list_all-append}
pub use Rattle.std.proofs.lemmas.Option.{none-some, same_Some}
pub use Rattle.std.proofs.lemmas.Result.{err_from_is_err_and}
pub use Rattle.std.specs.{Char.{is_ascii_digit, to_ascii_lowercase}, Fmt.{decimal, digit_glyph, digits_onto, signed_decimal}, List.{list_all, prefix_len}, Prelude.{IsTrue, codes, if◌then◌else◌, is_some, nat_le, negsuc, option_map, pos, unwrap_or, ℤ, ◌-ℤ◌, ◌||◌, ◌↔◌}}
unfoldable pub use Rattle.std.specs.Fmt.{digits}
pub use Rattle.lab_printing.specs.Depth.{deeper, depth_of, kind_depth, statement_depth, where_depth}
pub use Rattle.lab_printing.specs.Each.{Each}
pub use Rattle.lab_printing.specs.Limits.{StatementPrints, max_statement_bytes}
pub use Rattle.lab_printing.specs.Printed.{is_and, is_or, joined, parenthesized, printed_cmp, printed_col, printed_expr, printed_kind, printed_numbers, printed_pred, printed_row, printed_statement, printed_where}
pub use Rattle.lab_printing.specs.Ranges.{ExprInRange, KindInRange, PredInRange, RowInRange, StatementInRange, ValueInRange, WhereInRange}
pub use Rattle.lab_statement.specs.Fault.{IsFirstInText, IsStatementFault, SaysOfStatement, refusal_at}
unfoldable pub use Rattle.lab_statement.specs.FirstFaults.{delete_read, end_read, expr_read, insert_read, select_read, statement_read, update_read, whole_statement_read}
pub use Rattle.lab_statement.specs.FirstFaults.{StopsFirst, fault_of, fifth_table, in_predicate, nothing_read, placed_kind, statement_fault}
pub use Rattle.lab_statement.specs.Grammar.{A, IsAtom, IsEnd, IsExpr, IsId, IsNumber, IsNumberList, IsPred, IsRow, IsStatement, IsWhere, IsWholeStatement, Kind, N, P, cmp_token, col_token, over}
pub use Rattle.lab_statement.specs.Reading.{after, is_token}
unfoldable pub use Rattle.lab_statement.specs.Stopping.{atom_read, cmp_read, col_read, compare_read, conj_read, digits_read, joined_read, magnitude_read, more_read, name_read, number_list_read, number_read, numbers_read, one_of_read, positive_read, pred_read, remainder_read, row_read, term_read, where_read}
pub use Rattle.lab_statement.specs.Stopping.{Reading, Reads, Stops, StopsAt, if_found, name_of, one_more, read_value, token_read, tokens_read, ◌>>=◌}
pub use Rattle.lab_statement.specs.Text.{AreStatementTokens, BeginsLongStatement, HasWhere, SpellsStatement, begins_remark, code_of, is_code_byte, remark_of}
pub use Rattle.lab_statement.specs.Token.{Part, begun, ended, is_blank, is_known, is_letter, letters, longer, longer_token, mark, tokens, tokens_from, whole, with_digit, word_token}
pub use Rattle.lab_statement.specs.declared.{fault.{Refusal.{Refusal}, ScriptFaultKind.{ScriptFaultKind, TheVariants.{NumberOutOfRange, TooManyTables, UnknownStatement}}}, token.Token.{Token}}
pub use Rattle.lab_table.specs.{Predicate.{Predicate}, TableName.{has_name_form, is_name_letter, is_table_name}, Words.{is_reserved, word_named}, declared.{predicate.{Cmp.{Cmp}, Col.{Col}}, statement.{Expr.{Expr}, Statement.{Statement}}, word.Word.{Word}}}
