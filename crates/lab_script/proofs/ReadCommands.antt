-- The commands of a line of the grammar are read.
use Rattle.lab_script.proofs.Common.{◌≡◌, ◌≤◌, ◌<◌, true, List, [], ◌∷◌, ◌++◌, length, drop, Option, Some, None, refl, sym, ap, subst, ◌∙◌, length-append, one-add, arith, ℕ, zero, suc, ◌+◌, false, append_assoc, append-nil, list_all, prefix_len, and_parts, le-leb, option_to_list, Statement, Command, Token, IsStatement, IsCommand, IsCommands, printed_statement, Reads, end_read, is_short, is_word, words_read, level_read, command_read, added_read, step_read, repeated_read, some_left, commands_read, reads, reads_is, begins_setup}
use Rattle.lab_statement.proofs.ReadStatements.{statement_again, Closes, nothing, semicolon, unjoined}
use Rattle.lab_script.proofs.StoppedLoops.{some_more}
use Rattle.lab_script.proofs.CommandsTaken.{command_long}
use Rattle.lab_table.specs.declared.statement.Command.TheVariants as command
use Rattle.lab_statement.specs.declared.token.Token.TheVariants as token
use Rattle.lab_statement.specs.Grammar as grammar
use Rattle.lab_script.specs.Grammar as line_grammar

-- words

words_dropped : (ws rest : List Token) → list_all is_word ws ≡ true → prefix_len is_word rest ≡ 0 → drop (prefix_len is_word (ws ++ rest)) (ws ++ rest) ≡ rest
words_dropped [] rest all none = rw none refl
words_dropped (w ∷ ws) rest all none =
    let parts = and_parts (is_word w) (list_all is_word ws) all in rw (parts.0, one-add (prefix_len is_word (ws ++ rest))) (words_dropped ws rest parts.1 none)

wordless : {rest : List Token} → Closes rest → prefix_len is_word rest ≡ 0
wordless nothing = refl
wordless (semicolon rest) = refl

pub words_again : (w : Token) (ws rest : List Token) → list_all is_word (w ∷ ws) ≡ true → prefix_len is_word rest ≡ 0 → words_read (w ∷ ws ++ rest) ≡ Reads rest
unfolding words_read
words_again w ws rest all none =
    let parts = and_parts (is_word w) (list_all is_word ws) all in rw parts.0 (ap (λ (r : List Token). reads r) (words_dropped ws rest parts.1 none))

-- the commands of one statement

-- the command of a statement that is read, with what is left, and short enough
abbrev Given : List Token → List Command → List Token → Type 0
Given ts cs rest = (c : Option Command) × (command_read ts ≡ Reads (c, rest)) × (is_short c ≡ true) × (option_to_list c ≡ cs)

run_again : {ts : List Token} {s : Statement} → IsStatement ts s → (rest : List Token) → Closes rest → command_read (ts ++ rest) ≡ Reads (Some (command.Run s), rest)
unfolding command_read
run_again (grammar.select table h) rest closes = rw (statement_again (grammar.select table h) rest (unjoined closes)) refl
run_again (grammar.update table g h) rest closes = rw (statement_again (grammar.update table g h) rest (unjoined closes)) refl
run_again (grammar.insert table h) rest closes = rw (statement_again (grammar.insert table h) rest (unjoined closes)) refl
run_again (grammar.delete table h) rest closes = rw (statement_again (grammar.delete table h) rest (unjoined closes)) refl

-- a statement of the grammar is read
pub command_again : {ts : List Token} {cs : List Command} → IsCommand ts cs → (rest : List Token) → Closes rest → Given (ts ++ rest) cs rest
unfolding command_read level_read
command_again line_grammar.begin rest closes = (Some command.Begin, refl, refl, refl)
command_again line_grammar.commit rest closes = (Some command.Commit, refl, refl, refl)
command_again line_grammar.abort rest closes = (Some command.Abort, refl, refl, refl)
command_again line_grammar.rollback rest closes = (Some command.Abort, refl, refl, refl)
command_again (line_grammar.level w ws all) rest closes = (None, rw (words_again w ws rest all (wordless closes)) refl, refl, refl)
command_again (line_grammar.run {s} h le) rest closes = (Some (command.Run s), run_again h rest closes, le-leb (length (printed_statement s)) 1000 le, refl)

-- one statement more, with its end, if there is room for its command
step_again : {ts : List Token} {cs : List Command} → IsCommand ts cs → (end rest : List Token) → Closes end → end_read end ≡ Reads rest → (room : ℕ) (before : List Command)
    → length (before ++ cs) ≤ room → step_read room before (ts ++ end) ≡ Reads (before ++ cs, rest)
unfolding step_read added_read
step_again {cs = cs} h end rest closes ended room before le =
    let c = command_again h end closes in rw (c.1, ended, c.2, c.3, le-leb (length (before ++ cs)) room le) refl

-- all statements

commands_long : {ts : List Token} {cs : List Command} → IsCommands ts cs → 1 ≤ length ts
commands_long (line_grammar.one h) = command_long h
commands_long (line_grammar.closed {ts} h) = omega (arith, length-append ts (token.Semicolon ∷ []))
commands_long (line_grammar.more {ts} {rest = others} h hs) = omega (arith, length-append ts (token.Semicolon ∷ others))

-- the commands of a line of the grammar are read behind others, if there is room for them
all_again : {ts : List Token} {cs : List Command} → IsCommands ts cs → (k room : ℕ) (before : List Command) → length ts < k → length (before ++ cs) ≤ room
    → repeated_read k (step_read room) some_left before ts ≡ Reads (before ++ cs, [])
unfolding repeated_read end_read
all_again h zero room before lt fits = absurd (omega (arith, lt))
all_again (line_grammar.one {ts} {cs} h) (suc k) room before lt fits =
    subst (λ (us : List Token). repeated_read (suc k) (step_read room) some_left before us ≡ Reads (before ++ cs, [])) (append-nil ts)
    (rw (repeated_read, step_again h [] [] nothing refl room before fits) refl)
all_again (line_grammar.closed {ts} {cs} h) (suc k) room before lt fits = rw (repeated_read, step_again h (token.Semicolon ∷ []) [] (semicolon []) refl room before fits) refl
all_again (line_grammar.more {ts} {rest = others} {cs} {ds} h hs) (suc k) room before lt fits =
    let all : length ((before ++ cs) ++ ds) ≤ room = subst (λ (es : List Command). length es ≤ room) (sym (append_assoc before cs ds)) fits in
    let first : length (before ++ cs) ≤ room = omega (arith, all, length-append (before ++ cs) ds) in
    let few : length others < k = omega (arith, lt, length-append ts (token.Semicolon ∷ others)) in
    rw (repeated_read, step_again h (token.Semicolon ∷ others) others (semicolon others) refl room before first, some_more others (commands_long hs))
    (all_again hs k room (before ++ cs) few all ∙ ap (λ (es : List Command). reads (es, [])) (append_assoc before cs ds))

pub commands_again : {ts : List Token} {cs : List Command} → IsCommands ts cs → (room : ℕ) → length cs ≤ room → commands_read room ts ≡ Reads cs
unfolding commands_read
commands_again {ts} h room le = rw (all_again h (suc (length ts)) room [] (omega arith) le) refl

-- a line has one list of commands
pub commands_once : {ts : List Token} {cs ds : List Command} → IsCommands ts cs → IsCommands ts ds → cs ≡ ds
commands_once {ts} {cs} {ds} h i =
    let room = length cs + length ds in
    reads_is cs ds (sym (commands_again h room (omega arith)) ∙ commands_again i room (omega arith))

-- nothing is no statement
pub not_empty : {cs : List Command} → IsCommands [] cs → ⊥
not_empty h = let long : 1 ≤ 0 = commands_long h in omega (arith, long)

-- a statement doesn't begin as the setup
begins_otherwise : {ts : List Token} {cs : List Command} → IsCommand ts cs → (rest : List Token) → begins_setup (ts ++ rest) ≡ false
begins_otherwise (line_grammar.run (grammar.select table h) le) rest = refl
begins_otherwise (line_grammar.run (grammar.update table g h) le) rest = refl
begins_otherwise (line_grammar.run (grammar.insert table h) le) rest = refl
begins_otherwise (line_grammar.run (grammar.delete table h) le) rest = refl
begins_otherwise h rest = refl

pub no_setup : {ts : List Token} {cs : List Command} → IsCommands ts cs → begins_setup ts ≡ false
no_setup (line_grammar.one {ts} h) = ap begins_setup (sym (append-nil ts)) ∙ begins_otherwise h []
no_setup (line_grammar.closed h) = begins_otherwise h (token.Semicolon ∷ [])
no_setup (line_grammar.more {rest = others} h hs) = begins_otherwise h (token.Semicolon ∷ others)
