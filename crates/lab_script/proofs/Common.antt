-- The names that most proofs cite, passed on from one place.
pub use Rattle.lab_printing.{specs.{Depth.{statement_depth}, Each.{Each}, Limits.{CommandPrints, max_line_bytes}, Printed.{joined, newline, printed_command, printed_named_row, printed_row, printed_row_name, printed_statement, rows_or}, Ranges.{EntryInRange}, declared.print.PrintFault.{PrintFault}}, proofs.PutTexts.{room_tells}}
unfoldable pub use Rattle.lab_statement.{proofs.Common.{end_read}, specs.FirstFaults.{no_rows_at}}
pub use Rattle.lab_statement.proofs.Common.{Bool, Err, IsEnd, IsId, IsRow, IsStatement, List, None, Ok, Option, Reading, Reads, Result, Some, Statement, Stops, StopsAt, [], after, and_from, and_parts, ap, append-nil, append_assoc, arith, cases_Bool, cases_lt, code_of, codes, common_steps, cond, decimal, drop, drop_all, drop_more, eq-eqb, err_from_is_err_and, false, false≢true, fifth_table, get_or, if_found, if◌then◌else◌, inl, inr, is_ascii_digit, is_blank, is_code_byte, is_letter, is_some, le-leb, leb-false, leb-true, length, length-append, length-drop, length-map, letters, list_all, map, mark, min, nat_le, nat_tests, nil_from_length, none-some, not, option_map, placed_kind, prefix_len, refl, remark_of, row_read, rules, same_Some, subst, suc, sym, take, take-append-drop, take_all, to_ascii_lowercase, tokens, tokens_from, true, whole, zero, ℕ, ℤ, ⊎_elim, ◌&&◌, ◌*◌, ◌++◌, ◌+◌, ◌-◌, ◌<◌, ◌==◌, ◌>>=◌, ◌↔◌, ◌∙◌, ◌∷◌, ◌≡◌, ◌≢◌, ◌≤◌, ◌⊎◌, eqb-true}
pub use Rattle.lab_statement.specs.declared.{token.Token.{Token}, fault.{Refusal.{Refusal}, ScriptFaultKind.{ScriptFaultKind}, ScriptFault.{ScriptFault}}}
pub use Rattle.std.proofs.{Common.{T, flat_map, one-add}, Math.Dec.{eqb-suc-zero}, lemmas.{Bool.{le-ltb, lt-ltb, ltb-false, ltb-true, ne_eqb, or_parts, true≢false}, List.{length-take, take-append-le, take_at}, Option.{slice_get_within}, Result.{on_ok_weaker}}}
pub use Rattle.std.specs.FinMap.{contains_key, empty, find, from_entries, from_entries_push, get-from_entries, insert}
pub use Rattle.std.specs.List.{Contains, onto_first, slice_split}
pub use Rattle.std.specs.Prelude.{IfErr, IfOk, IfSome, MatchResult, OnOk, nat_lt, ok_or, option_to_list, slice_get, slice_index}
pub use Rattle.std.specs.Result.{result_and}
pub use Rattle.std.specs.Str.Lines.{lines, lines_of_parts, strip_carriage_return}
pub use Rattle.lab_script.specs.Fault.{IsFaultAt, IsFaultOf, IsFaultyLine, TellsOfTokens, first_fault, is_over, remark_fault, tokens_fault}
unfoldable pub use Rattle.lab_script.specs.{FirstFaults.{added_read, command_read, commands_read, level_read, named_row_read, repeated_read, row_onto_read, row_table_read, rows_read, setup_end_read, setup_read, step_read, table_read, words_read}, Transcript.{statement_text, table_with}}
pub use Rattle.lab_script.specs.FirstFaults.{commands_fault, commands_placed, passed, setup_ended, setup_fault, setup_placed, some_left}
pub use Rattle.lab_script.specs.Grammar.{AllDistinct, IsCommand, IsCommands, IsNamedRow, IsRowList, IsRows, IsSetup}
pub use Rattle.lab_script.specs.Limits.{AllPrint, ScriptPrints, SomeLine, max_commands}
pub use Rattle.lab_script.specs.PassedTables.{is_behind_set, setup_table, statement_table, statement_tables, token_table, with_named, with_setup_tokens, with_tokens}
pub use Rattle.lab_script.specs.Printed.{named_rows_or, printed_line, printed_script, printed_setup}
pub use Rattle.lab_script.specs.Ranges.{LineInRange, ScriptInRange, SessionInRange}
pub use Rattle.lab_script.specs.Script.{BeginsLongSetup, IsFit, LineSpells, LinesSpell, Spells, TokensSpell, begins_setup, extended, is_ascii_code, is_passed, session_digit, session_of}
pub use Rattle.lab_script.specs.Tables.{command_table, line_table, script_tables, setup_tables, tables_so_far, with_all, with_any, with_commands, with_lines, with_rows}
pub use Rattle.lab_script.specs.Transcript.{Transaction, answer_text, body_of, body_on, body_text, committed, inside_after, is_begin, kind_refusal_text, nobody, refusal_text, row_text, serial_text, sessions_in, table_after, transaction_of, transaction_text, transactions, transcript}
pub use Rattle.lab_script.specs.TranscriptView.{Breaks, Ended, TranscriptView, ended_by, fault_text, first_broken, limit_broken, shown, shown_of, unprintable}
pub use Rattle.lab_script.specs.declared.script.{Line.{Line}, Script.{Script}}
pub use Rattle.lab_statement.proofs.GrammarFaults.{are_four, fault_is, faultless, no_fifth, no_statement_fault, valued}
pub use Rattle.lab_statement.proofs.PrintedNumbers.{comma_leads, decimal_plain}
pub use Rattle.lab_statement.proofs.PrintedStatements.{row_fits, row_leads, row_tokens, statement_fits, statement_reads, statement_tokens}
pub use Rattle.lab_statement.proofs.PrintedText.{Leads, all_plain, append_ascii, append_plain, cut_leads, leads_leads, leads_reads, literal, mark_leads, plain_code, reads_all, word_ends}
pub use Rattle.lab_statement.proofs.Readings.{reads, reads_is, stops_as}
pub use Rattle.lab_statement.proofs.StatementTaken.{end_gives, name_of_gives, nothing_gives, row_taken, statement_taken}
pub use Rattle.lab_statement.proofs.Takes.{Any, Gives, Takes, each_gives, found, found_gives, further, gives, gives_of, if_gives, made, stop_of, stops, taken, then_gives, token_gives, tokens_give}
pub use Rattle.lab_statement.specs.FirstFaults.{behind_tables, is_short}
pub use Rattle.lab_statement.specs.Token.{gap, is_word}
pub use Rattle.lab_table.{proofs.Tests.{both, slice_get-middle}, specs.{Row.{Row, numbered, row_cmp, row_eq, rows_apart, rows_total}, Table.{Table}, TableName.{table_name_eq, test_name}, TableSet.{are_few, is_among, with_name}, declared.statement.Command.{Command}}}

-- what holds of a value behind a call that went well
pub ok_behind : {T E : Type 0} (r : Result Unit E) (x : T) (P : T → Type 0) → ((y : Unit) → r ≡ Ok y → P x) → IfOk (result_and r (Ok x)) P
ok_behind (Ok y) x P h = h y refl
ok_behind (Err e) x P h = tt
