-- What lines spell: a line makes one thing at most of what stands before it, and so do lines; what is made prints.
use Rattle.lab_script.proofs.Common.{first_fault, tokens_fault, if◌then◌else◌, le-ltb, ◌≡◌, ℕ, ◌+◌, ◌≤◌, true, List, [], ◌∷◌, ◌++◌, length, map, Option, Some, refl, sym, ap, subst, ◌∙◌, arith, length-append, false, None, IfSome, nat_lt, list_all, length-map, false≢true, nil_from_length, eqb-true, ◌==◌, ltb-false, or_parts, same_Some, Command, Line, Script, Token, tokens, IsCommands, IsSetup, IsCommand, code_of, remark_of, is_code_byte, is_passed, IsFit, begins_setup, extended, LineSpells, LinesSpell, session_of, TokensSpell, is_over, Each, CommandPrints, AllPrint, ScriptPrints}
use Rattle.lab_script.proofs.ReadCommands.{commands_once, not_empty}
use Rattle.lab_script.proofs.ReadSetup.{setup_once, setup_begins, setup_short}
use Rattle.lab_statement.proofs.ShallowStatements.{statement_shallow}
use Rattle.lab_script.proofs.FewTables.{tables_extended}
use Rattle.lab_script.specs.Script as script
use Rattle.lab_script.specs.Grammar as line_grammar

-- a line that is passed over has no tokens
no_tokens : (line : List ℕ) → is_passed line ≡ true → tokens (code_of line) ≡ []
no_tokens line passed = nil_from_length (tokens (code_of line)) (eqb-true _ 0 passed)

-- a line that is passed over spells no setup and no commands
passed_no_setup : (line : List ℕ) {A : Type 0} → is_passed line ≡ true → begins_setup (tokens (code_of line)) ≡ true → A
passed_no_setup line passed begins = absurd (false≢true (ap begins_setup (sym (no_tokens line passed)) ∙ begins))

passed_no_commands : (line : List ℕ) {cs : List Command} {A : Type 0} → is_passed line ≡ true → IsCommands (tokens (code_of line)) cs → A
passed_no_commands line {cs} passed commands = absurd (not_empty (subst (λ (ts : List Token). IsCommands ts cs) (no_tokens line passed) commands))

-- a line that spells something may have its number
pub fit_of : {number : ℕ} {line : List ℕ} {before after : Option Script} → LineSpells number line before after → IsFit number line
fit_of (script.passed s fit is) = fit
fit_of (script.setup fit is small) = fit
fit_of (script.commands s fit is session room small) = fit

-- a line that may have its number has the faults of its tokens
pub fit_fault : {number : ℕ} {line : List ℕ} (before : Option Script) → IsFit number line
    → first_fault number line before ≡ (if is_passed line then None else tokens_fault (tokens (code_of line)) (remark_of line) before)
fit_fault {number} {line} before fit = rw (le-ltb 2000 number fit.lines, le-ltb 4000 (length line) fit.bytes, fit.ascii) refl

-- a line makes one thing at most of what stands before it
pub line_once : {number : ℕ} {line : List ℕ} {before a b : Option Script} → LineSpells number line before a → LineSpells number line before b → a ≡ b
line_once {line = line} (script.passed s fit is) (script.passed r fits also) = refl
line_once {line = line} (script.passed s fit is) (script.setup fits spelled small) = passed_no_setup line is (setup_begins spelled)
line_once {line = line} (script.passed s fit is) (script.commands r fits spelled session room small) = passed_no_commands line is spelled
line_once {line = line} (script.setup fit spelled small) (script.passed r fits also) = passed_no_setup line also (setup_begins spelled)
line_once {line = line} (script.setup fit spelled small) (script.setup fits also tiny) = ap (λ t. Some (record { setup = t; lines = [] })) (setup_once spelled also)
line_once {line = line} (script.commands s fit spelled session room small) (script.passed r fits also) = passed_no_commands line also spelled
line_once {number} {line} (script.commands {cs = cs} {session = one} s fit spelled session room small) (script.commands {cs = ds} {session = other} r fits also named few tiny) =
    ap (λ c. Some (extended s one number c)) (commands_once spelled also)
    ∙ ap (λ n. Some (extended s n number ds)) (same_Some one other (sym session ∙ named))

-- lines make one thing at most of what stands before them
pub lines_once : (number : ℕ) (before : Option Script) (ls : List (List ℕ)) {a b : Option Script} → LinesSpell number before ls a → LinesSpell number before ls b → a ≡ b
lines_once number before [] one other = one ∙ sym other
lines_once number before (line ∷ ls) {a} {b} one other =
    let same = line_once one.1 other.1 in
    lines_once (number + 1) one.0 ls one.2 (subst (λ (mid : Option Script). LinesSpell (number + 1) mid ls b) (sym same) other.2)

-- what lines and those behind them make, one after another
pub lines_join : (number : ℕ) (before : Option Script) (ls more : List (List ℕ)) (mid after : Option Script)
    → LinesSpell number before ls mid → LinesSpell (number + length ls) mid more after → LinesSpell number before (ls ++ more) after
lines_join number before [] more mid after front back =
    let same : number + 0 ≡ number = omega arith in
    subst (λ (n : ℕ). LinesSpell n before more after) same (subst (λ (m : Option Script). LinesSpell (number + 0) m more after) front back)
lines_join number before (line ∷ ls) more mid after front back =
    let same : number + length (line ∷ ls) ≡ (number + 1) + length ls = omega arith in
    (front.0, front.1, lines_join (number + 1) front.0 ls more mid after front.2 (subst (λ (n : ℕ). LinesSpell n mid more after) same back))

-- the lines at the front make something, and those behind them go on from there
pub lines_front : (number : ℕ) (before : Option Script) (ls more : List (List ℕ)) (after : Option Script) → LinesSpell number before (ls ++ more) after
    → (mid : Option Script) × LinesSpell number before ls mid × LinesSpell (number + length ls) mid more after
lines_front number before [] more after all =
    let same : number ≡ number + 0 = omega arith in
    (before, refl, subst (λ (n : ℕ). LinesSpell n before more after) same all)
lines_front number before (line ∷ ls) more after all =
    let rest = lines_front (number + 1) all.0 ls more after all.2 in
    let same : (number + 1) + length ls ≡ number + length (line ∷ ls) = omega arith in
    (rest.0, (all.0, all.1, rest.1), subst (λ (n : ℕ). LinesSpell n rest.0 more after) same rest.2)

module _ (number : ℕ) (line : List ℕ) {code remark : List ℕ} (within : is_over number line ≡ false) (code_is : code ≡ code_of line) (remark_is : remark ≡ remark_of line) where
  module _ (ascii : list_all is_code_byte code ≡ true) where
    fit : IsFit number line
    fit =
        let both = or_parts (nat_lt 2000 number) (nat_lt 4000 (length line)) within in
        record { lines = ltb-false 2000 number both.0; bytes = ltb-false 4000 (length line) both.1; ascii = ap (list_all is_code_byte) (sym code_is) ∙ ascii }

    module _ {ts : List Token} (of_code : ts ≡ tokens code) where
      of_line : ts ≡ tokens (code_of line)
      of_line = of_code ∙ ap tokens code_is

      pub tokenless_line : (before : Option Script) → (length ts == 0) ≡ true → LineSpells number line before before
      tokenless_line before none = script.passed before fit (ap (λ us. length us == 0) (sym of_line) ∙ none)

      -- a line with tokens has their faults
      pub tokens_faulty : (length ts == 0) ≡ false → (before : Option Script) → first_fault number line before ≡ tokens_fault ts remark before
      tokens_faulty some before =
          fit_fault before fit ∙ rw (of_line, remark_is, ap (λ us. length us == 0) (sym of_line) ∙ some) refl

      -- a line spells what its tokens spell
      pub tokens_line : (before after : Option Script) → TokensSpell number ts remark before after → LineSpells number line before after
      tokens_line None after (table, is, small, e) =
          subst (LineSpells number line None) (sym e) (script.setup fit (subst (λ us. IsSetup us table) of_line is) small)
      tokens_line (Some before) after (cs, session, is, named, room, small, e) =
          subst (LineSpells number line (Some before)) (sym e)
          (script.commands before fit (subst (λ us. IsCommands us cs) of_line is) (ap session_of (sym remark_is) ∙ named) room small)

command_prints : {ts : List Token} {cs : List Command} → IsCommand ts cs → Each CommandPrints cs
command_prints (line_grammar.level t ts all) = tt
command_prints (line_grammar.run h le) = (record { shallow = statement_shallow h; short = le }, tt)
command_prints is = (tt, tt)

both_print : (cs ds : List Command) → Each CommandPrints cs → Each CommandPrints ds → Each CommandPrints (cs ++ ds)
both_print [] ds h i = i
both_print (c ∷ cs) ds h i = (h.0, both_print cs ds h.1 i)

-- the commands of a line print
pub commands_print : {ts : List Token} {cs : List Command} → IsCommands ts cs → Each CommandPrints cs
commands_print (line_grammar.one h) = command_prints h
commands_print (line_grammar.closed h) = command_prints h
commands_print (line_grammar.more {cs} {ds} h hs) = both_print cs ds (command_prints h) (commands_print hs)

-- lines print, and so do those of commands behind them
all_print : (lines : List Line) (cs : List Command) (session number : ℕ) → AllPrint lines → Each CommandPrints cs
    → AllPrint (lines ++ map (λ c. record { session = session; command = c; text_line = number }) cs)
all_print [] [] session number lines commands = tt
all_print [] (c ∷ cs) session number lines commands = (commands.0, all_print [] cs session number tt commands.1)
all_print (line ∷ lines) cs session number all commands = (all.0, all_print lines cs session number all.1 commands)

-- what a line makes of a script that prints prints
pub line_prints : {number : ℕ} {line : List ℕ} {before after : Option Script} → LineSpells number line before after → IfSome before ScriptPrints → IfSome after ScriptPrints
line_prints (script.passed s fit is) prints = prints
line_prints (script.setup fit spelled small) prints = record { setup = setup_short spelled; few = omega arith; lines = tt; tables = small }
line_prints {number} (script.commands {cs = cs} {session = one} s fit spelled session room small) prints =
    let more : List Line = map (λ c. record { session = one; command = c; text_line = number }) cs in
    let len : length more ≡ length cs = length-map cs _ in
    record {
      setup = prints.setup;
      few = omega (arith, length-append s.lines more);
      lines = all_print s.lines cs one number prints.lines (commands_print spelled);
      tables = subst (λ names. length names ≤ 4) (sym (tables_extended s one number cs)) small;
    }
