-- A printed script spells the script, with the lines of the printed text.
use Rattle.lab_script.proofs.Common.{◌≡◌, ℕ, zero, suc, ◌-◌, Bool, true, false, cond, List, [], ◌∷◌, ◌++◌, length, take, refl, ap, ◌∙◌, append_assoc, arith, ◌+◌, ◌≤◌, Some, None, sym, length-append, subst, decimal, map, flat_map, ◌==◌, slice_index, ◌&&◌, codes, nat_le, list_all, lines, strip_carriage_return, nat_tests, and_parts, le-leb, newline, printed_command, is_code_byte, code_of, remark_of, Command, Token, Line, Script, tokens, IsCommand, IsCommands, CommandPrints, session_digit, session_of, IsFit, LineSpells, extended, LinesSpell, Spells, SessionInRange, LineInRange, ScriptInRange, line_table, with_any, script_tables, with_lines, setup_tables, all_plain, append_plain, append_ascii, word_ends, statement_tokens, statement_reads, statement_fits, decimal_plain, append-nil, AllPrint, ScriptPrints, printed_setup, printed_line, printed_script, Each}
use Rattle.lab_script.proofs.TextLines.{lines_behind, lines_are}
use Rattle.std.proofs.lemmas.Fmt.{decimal_digit}
use Rattle.lab_printing.specs.Ranges.{CommandInRange}
use Rattle.lab_statement.proofs.PrintedText.{Reads}
use Rattle.lab_script.specs.Printed.{numbered, renumbered}
use Rattle.lab_script.proofs.FewTables.{all_longer, tables_extended}
use Rattle.lab_script.proofs.PrintedSetups.{setup_leads, setup_spells}
use Rattle.lab_table.specs.declared.statement.Command.TheVariants as command
use Rattle.lab_table.specs.declared.word.Word.TheVariants as word
use Rattle.lab_statement.specs.declared.token.Token.TheVariants as token
use Rattle.lab_script.specs.Grammar as grammar
use Rattle.lab_script.specs.Script as script

-- a byte of code is no newline and no carriage return
no_newline : (b : ℕ) → is_code_byte b ≡ true → (b == 10) ≡ false
no_newline b h = grind (arith, nat_tests)

no_return : (b : ℕ) → is_code_byte b ≡ true → (b == 13) ≡ false
no_return b h = grind (arith, nat_tests)

-- no byte of a line of code is a carriage return
nowhere : (line : List ℕ) (k : ℕ) → list_all is_code_byte line ≡ true → (slice_index line k == 13) ≡ false
nowhere [] k h = refl
nowhere (b ∷ line) zero h = no_return b (and_parts (is_code_byte b) (list_all is_code_byte line) h).0
nowhere (b ∷ line) (suc k) h = nowhere line k (and_parts (is_code_byte b) (list_all is_code_byte line) h).1

-- a line of code loses no carriage return
kept_whole : (line : List ℕ) → list_all is_code_byte line ≡ true → strip_carriage_return line ≡ line
kept_whole line h = ap (λ (v : Bool). cond v (take (length line - 1) line) line) (nowhere line (length line - 1) h)

-- a newline ends a line of code
behind_code : (front line rest : List ℕ) → list_all is_code_byte line ≡ true → lines_behind front (line ++ 10 ∷ rest) ≡ strip_carriage_return (front ++ line) ∷ lines_behind [] rest
behind_code front [] rest h = ap (λ l. strip_carriage_return l ∷ lines_behind [] rest) (sym (append-nil front))
behind_code front (b ∷ line) rest h =
    let parts = and_parts (is_code_byte b) (list_all is_code_byte line) h in
    rw (no_newline b parts.0) (behind_code (front ++ b ∷ []) line rest parts.1 ∙ ap (λ l. strip_carriage_return l ∷ lines_behind [] rest) (append_assoc front (b ∷ []) line))

-- a printed line and a newline give the line, and then the lines of what follows
first_line : (line rest : List ℕ) → list_all is_code_byte line ≡ true → lines (line ++ newline ++ rest) ≡ line ∷ lines rest
first_line line rest h =
    lines_are (line ++ newline ++ rest) ∙ ap (lines_behind []) (append_assoc line newline rest) ∙ behind_code [] line rest h
    ∙ ap (λ l. l ∷ lines_behind [] rest) (kept_whole line h) ∙ ap (λ ls. line ∷ ls) (sym (lines_are rest))

-- the tokens of a printed command
abbrev pub command_tokens : Command → List Token
command_tokens command.Begin = token.Word word.Begin ∷ []
command_tokens command.Commit = token.Word word.Commit ∷ []
command_tokens command.Abort = token.Word word.Abort ∷ []
command_tokens (command.Run s) = statement_tokens s

-- a printed command has its tokens
pub command_reads : (c : Command) → CommandInRange c → Reads (printed_command c) (command_tokens c)
command_reads command.Begin h = record { is = λ rest b. word_ends (codes "begin") rest b; plain = all_plain (codes "begin") refl }
command_reads command.Commit h = record { is = λ rest b. word_ends (codes "commit") rest b; plain = all_plain (codes "commit") refl }
command_reads command.Abort h = record { is = λ rest b. word_ends (codes "abort") rest b; plain = all_plain (codes "abort") refl }
command_reads (command.Run s) h = statement_reads s h

-- the tokens of a printed command are in the grammar
pub command_fits : (c : Command) → CommandInRange c → CommandPrints c → IsCommand (command_tokens c) (c ∷ [])
command_fits command.Begin h p = grammar.begin
command_fits command.Commit h p = grammar.commit
command_fits command.Abort h p = grammar.abort
command_fits (command.Run s) h p = grammar.run (statement_fits s h p.shallow) p.short

-- a command that prints has at most 1,000 bytes
command_short : (c : Command) → CommandPrints c → length (printed_command c) ≤ 1000
command_short command.Begin p = omega arith
command_short command.Commit p = omega arith
command_short command.Abort p = omega arith
command_short (command.Run s) p = p.short

-- what a line of the printed script holds before its newline
abbrev pub line_text : Line → List ℕ
line_text line = printed_command line.command ++ codes "; -- T" ++ decimal line.session

-- a digit from 1 to 9 is a session
session_is : (n : ℕ) → 1 ≤ n → n ≤ 9 → session_digit ((48 + n) ∷ []) ≡ Some n
session_is n low high =
    let above : nat_le 49 (48 + n) ≡ true = le-leb 49 (48 + n) (omega arith) in
    let below : nat_le (48 + n) 57 ≡ true = le-leb (48 + n) 57 (omega arith) in
    let back : (48 + n) - 48 ≡ n = omega arith in
    ap (λ (v : Bool). cond ((v && nat_le (48 + n) 57) && true) (Some ((48 + n) - 48)) None) above
    ∙ ap (λ (v : Bool). cond ((true && v) && true) (Some ((48 + n) - 48)) None) below
    ∙ ap (λ (m : ℕ). Some m) back

-- the remark names the session
line_session : (line : Line) → SessionInRange line.session → CommandInRange line.command → session_of (remark_of (line_text line)) ≡ Some line.session
line_session line r h =
    ap (λ (t : List ℕ). session_of (remark_of t)) (append_assoc (printed_command line.command) (codes "; -- T") (decimal line.session))
    ∙ ap session_of ((command_reads line.command h).plain.remark (codes "; -- T" ++ decimal line.session))
    ∙ ap session_digit (decimal_digit line.session (omega arith))
    ∙ session_is line.session r.0 r.1

-- the code is the command and a semicolon
line_code : (line : Line) → CommandInRange line.command → code_of (line_text line) ≡ printed_command line.command ++ codes "; "
line_code line h =
    ap code_of (append_assoc (printed_command line.command) (codes "; -- T") (decimal line.session))
    ∙ (command_reads line.command h).plain.code (codes "; -- T" ++ decimal line.session)

-- the tokens of a line are those of its command and a semicolon
line_tokens : (line : Line) → CommandInRange line.command → tokens (code_of (line_text line)) ≡ command_tokens line.command ++ token.Semicolon ∷ []
line_tokens line h = ap tokens (line_code line h) ∙ (command_reads line.command h).is (codes "; ") refl

-- a line may have any number up to 2,000
line_fit : (number : ℕ) (line : Line) → SessionInRange line.session → CommandInRange line.command → CommandPrints line.command → number ≤ 2000 → IsFit number (line_text line)
line_fit number line r h p le = record {
  lines = le;
  bytes = omega (
    arith,
    length-append (printed_command line.command ++ codes "; -- T") (decimal line.session),
    length-append (printed_command line.command) (codes "; -- T"),
    command_short line.command p,
    ap length (decimal_digit line.session (omega arith)),
  );
  ascii = ap (list_all is_code_byte) (line_code line h) ∙ (append_plain (printed_command line.command) (codes "; ") (command_reads line.command h).plain (all_plain (codes "; ") refl)).ascii;
}

-- all of a line is printed
pub line_ascii : (line : Line) → CommandInRange line.command → list_all is_code_byte (line_text line) ≡ true
line_ascii line h =
    append_ascii (printed_command line.command ++ codes "; -- T") (decimal line.session)
    (append_ascii (printed_command line.command) (codes "; -- T") (command_reads line.command h).plain.ascii refl) (decimal_plain line.session).ascii

-- a printed line gives its command
pub line_spells : (number : ℕ) (line : Line) (before : Script) → SessionInRange line.session → CommandInRange line.command → CommandPrints line.command → number ≤ 2000 → length before.lines + 1 ≤ 1999
    → length (with_any (script_tables before) (line_table line)) ≤ 4
    → LineSpells number (line_text line) (Some before) (Some (extended before line.session number (line.command ∷ [])))
line_spells number line before r h p le few small =
    script.commands before (line_fit number line r h p le) (subst (λ (ts : List Token). IsCommands ts (line.command ∷ [])) (sym (line_tokens line h))
    (grammar.closed (command_fits line.command h p))) (line_session line r h) few small

-- the lines of the printed commands
command_lines : (ls : List Line) → Each LineInRange ls → lines (flat_map printed_line ls) ≡ map line_text ls
command_lines [] r = refl
command_lines (line ∷ ls) r =
    first_line (line_text line) (flat_map printed_line ls) (line_ascii line r.0.1)
    ∙ ap (λ (t : List (List ℕ)). line_text line ∷ t) (command_lines ls r.1)

-- the lines of a printed script
script_lines : (script : Script) → ScriptInRange script → lines (printed_script script) ≡ printed_setup script.setup ∷ map line_text script.lines
script_lines script r =
    first_line (printed_setup script.setup) (flat_map printed_line script.lines) (setup_leads script.setup r.setup).plain.ascii
    ∙ ap (λ (t : List (List ℕ)). printed_setup script.setup ∷ t) (command_lines script.lines r.lines)

-- a script with more lines
abbrev with_more : Script → List Line → Script
with_more script more = record { setup = script.setup; lines = script.lines ++ more }

-- printed lines give their commands, one after another
lines_spell : (number : ℕ) (before : Script) (ls : List Line) → Each LineInRange ls → AllPrint ls → number + length ls ≤ 2001 → length before.lines + length ls ≤ 1999 → length (with_lines (script_tables before) ls) ≤ 4
    → LinesSpell number (Some before) (map line_text ls) (Some (with_more before (numbered number ls)))
lines_spell number before [] r p le few small = ap (λ (ls : List Line). Some (record { setup = before.setup; lines = ls })) (append-nil before.lines)
lines_spell number before (line ∷ ls) r p le few small =
    let next : Script = extended before line.session number (line.command ∷ []) in
    let counted : length next.lines ≡ length before.lines + 1 = length-append before.lines _ in
    let here = all_longer line_table (with_any (script_tables before) (line_table line)) ls in (
      Some next,
      line_spells number line before r.0.0 r.0.1 p.0 (omega arith) (omega arith) (omega (arith, small, here)),
      subst (λ (all : List Line). LinesSpell (number + 1) (Some next) (map line_text ls) (Some (record { setup = before.setup; lines = all }))) (append_assoc before.lines _ (numbered (number + 1) ls))
          (lines_spell (number + 1) next ls r.1 p.1 (omega arith) (omega arith)
          (subst (λ names. length (with_lines names ls) ≤ 4) (sym (tables_extended before line.session number (line.command ∷ []))) small)),
    )

-- a printed script spells the script, with the lines of the printed text
pub script_spells : (script : Script) → ScriptInRange script → ScriptPrints script → Spells (printed_script script) (renumbered script)
script_spells script r p =
    let start : Script = record { setup = script.setup; lines = [] } in
    subst (λ (ls : List (List ℕ)). LinesSpell 1 None ls (Some (renumbered script))) (sym (script_lines script r)) (
      Some start,
      setup_spells script.setup r.setup p.setup (let all = all_longer line_table (setup_tables script.setup) script.lines in omega (arith, all, p.tables)),
      lines_spell 2 start script.lines r.lines p.lines (omega (arith, p.few)) (omega (arith, p.few)) p.tables,
    )
