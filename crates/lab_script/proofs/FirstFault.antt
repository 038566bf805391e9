-- Where a text has its first fault, read line by line.
use Rattle.lab_script.proofs.Common.{IfSome, ◌≡◌, ℕ, ◌+◌, ◌≤◌, Bool, true, false, List, [], ◌∷◌, ◌++◌, length, take, Option, Some, None, Result, Ok, Err, refl, sym, ap, subst, ◌∙◌, inl, inr, arith, length-append, append_assoc, ◌-◌, if◌then◌else◌, slice_get, MatchResult, IfOk, IfErr, ok_or, lines, append-nil, take_at, none-some, same_Some, ScriptFault, ScriptFaultKind, Script, Token, tokens, code_of, commands_fault, setup_fault, max_commands, ScriptPrints, is_passed, LineSpells, LinesSpell, Spells, script_tables, first_fault, IsFaultAt, IsFaultOf, slice_get-middle}
use Rattle.lab_statement.specs.declared.fault.ScriptFault.TheVariants as fault
use Rattle.lab_statement.specs.declared.fault.ScriptFaultKind.TheVariants as kinds
use Rattle.lab_script.specs.Script as script
use Rattle.lab_script.proofs.LineFaults.{no_commands_fault, no_setup_fault, line_tells}
use Rattle.lab_script.proofs.OneFault.{none_at_all}
use Rattle.lab_script.proofs.ReadCommands.{no_setup}
use Rattle.lab_script.proofs.ReadSetup.{setup_begins}
use Rattle.lab_script.proofs.ScriptLines.{fit_fault, fit_of, lines_once, lines_join, line_prints}

-- the lines so far, of which there are so many, spell nothing yet or a script, and these are left
pub record IsReadTo (text : List ℕ) (number : ℕ) (rest : List (List ℕ)) (script : Option Script) : Type 0 where
  pub front : List (List ℕ)
  pub whole : lines text ≡ front ++ rest
  pub counted : length front ≡ number
  pub spelled : LinesSpell 1 None front script
  pub within : number ≤ 2000
  pub prints : IfSome script ScriptPrints

pub none_read : (text : List ℕ) → IsReadTo text 0 (lines text) None
none_read text = record { front = []; whole = refl; counted = refl; spelled = refl; within = omega arith; prints = tt }

pub one_more_read : {text : List ℕ} {number : ℕ} {line : List ℕ} {rest : List (List ℕ)} {before after : Option Script}
    → IsReadTo text number (line ∷ rest) before → LineSpells (number + 1) line before after → IsReadTo text (number + 1) rest after
one_more_read {text} {number} {line} {rest} {before} {after} read spells = record {
  front = read.front ++ line ∷ [];
  whole = read.whole ∙ sym (append_assoc read.front (line ∷ []) rest);
  counted = length-append read.front (line ∷ []) ∙ ap (λ (n : ℕ). n + 1) read.counted;
  spelled = lines_join 1 None read.front (line ∷ []) before after read.spelled (after, subst (λ (n : ℕ). LineSpells n line before after) place spells, refl);
  within = (fit_of spells).lines;
  prints = line_prints spells read.prints;
}
  where
    place : number + 1 ≡ 1 + length read.front
    place = let counted : length read.front ≡ number = read.counted in omega arith

pub all_read : {text : List ℕ} {number : ℕ} {script : Option Script} → IsReadTo text number [] script → LinesSpell 1 None (lines text) script
all_read {script = script} read = subst (λ (ls : List (List ℕ)). LinesSpell 1 None ls script) (sym (read.whole ∙ append-nil read.front)) read.spelled

unless_passed : (passed : Bool) (found : Option ScriptFaultKind) → found ≡ None → (if passed then None else found) ≡ None
unless_passed true found none = refl
unless_passed false found none = none

-- a line that spells something has no fault
spelled_faultless : {number : ℕ} {line : List ℕ} {before after : Option Script} → LineSpells number line before after → first_fault number line before ≡ None
spelled_faultless (script.passed s fit is) = fit_fault s fit ∙ rw is refl
spelled_faultless {line = line} (script.setup {table = table} fit spelled few) =
    let ts : List Token = tokens (code_of line) in
    let none : setup_fault ts ≡ None = (no_setup_fault ts).1 (table, spelled, few) in
    fit_fault None fit ∙ unless_passed (is_passed line) _ (rw (setup_begins spelled) none)
spelled_faultless {line = line} (script.commands {cs = cs} s fit spelled session room few) =
    let ts : List Token = tokens (code_of line) in
    let none : commands_fault (script_tables s) (max_commands - length s.lines) ts ≡ None = (no_commands_fault (script_tables s) (max_commands - length s.lines) ts).1 (cs, spelled, omega (arith, room), few) in
    fit_fault (Some s) fit ∙ unless_passed (is_passed line) _ (rw (no_setup spelled, none, session) refl)

-- a text with a fault spells nothing
pub fault_spells_nothing : (text : List ℕ) (number : ℕ) (kind : ScriptFaultKind) (s : Script) → IsFaultOf text (fault.At number kind) → Spells text s → ⊥
fault_spells_nothing text number kind s (inl line) spells = none_at_all text number kind (Some s) line spells
fault_spells_nothing text number kind s (inr without) spells =
    let none : ◌≡◌ {A = Option Script} None (Some s) = lines_once 1 None (lines text) without.spelled spells in
    absurd cc

module _ {text : List ℕ} {number : ℕ} {line : List ℕ} {rest : List (List ℕ)} {before : Option Script} (read : IsReadTo text number (line ∷ rest) before) where
  -- the lines before this one, and the script that they spell
  before_it : LinesSpell 1 None (take number (lines text)) before
  before_it = subst (λ (ls : List (List ℕ)). LinesSpell 1 None ls before) (sym (ap (take number) read.whole ∙ take_at read.front (line ∷ rest) number read.counted)) read.spelled

  stands_there : slice_get (lines text) number ≡ Some line
  stands_there = ap (λ (ls : List (List ℕ)). slice_get ls number) read.whole ∙ ap (slice_get (read.front ++ line ∷ rest)) (sym read.counted) ∙ slice_get-middle read.front line rest

  -- the first fault of the first line that has one is the text's
  pub line_fault : {kind : ScriptFaultKind} → first_fault (number + 1) line before ≡ Some kind → IsFaultOf text (fault.At (number + 1) kind)
  line_fault {kind} first = inl (record {
    index = number;
    counted = refl;
    line = line;
    stands = stands_there;
    before = before;
    spelled = before_it;
    faulty = λ after spells. none-some kind (sym (spelled_faultless spells) ∙ first);
    first = first;
    tells = line_tells (number + 1) line before kind first;
  })

-- a text that ends before its setup
pub end_fault : {text : List ℕ} {number : ℕ} → IsReadTo text number [] None → IsFaultOf text (fault.At (number + 1) kinds.NoSetup)
end_fault {text} {number} read =
    let size : number + 1 ≡ length (lines text) + 1 = ap (λ (n : ℕ). n + 1) (sym (ap length (read.whole ∙ append-nil read.front) ∙ read.counted)) in
    inr (record { counted = size; spelled = all_read read; missing = refl })

-- the fault of a line is the text's
pub line_faults : {text : List ℕ} {number : ℕ} {line : List ℕ} {rest : List (List ℕ)} {before : Option Script}
    → IsReadTo text number (line ∷ rest) before → (f : ScriptFault) → IsFaultAt (number + 1) (first_fault (number + 1) line before) f → IsFaultOf text f
line_faults read fault.NoMemory is = tt
line_faults {text} read (fault.At n kind) is = subst (λ (m : ℕ). IsFaultOf text (fault.At m kind)) (sym is.0) (line_fault read is.1)

-- a script that was read of a whole text
abbrev pub IsRead : List ℕ → Script → Type 0
IsRead text s = Spells text s × ScriptPrints s

-- what was read of a whole text
pub whole_read : {text : List ℕ} {number : ℕ} (script : Option Script) → IsReadTo text number [] script
    → MatchResult (ok_or script (fault.At (number + 1) kinds.NoSetup)) (IsRead text) (IsFaultOf text)
whole_read (Some s) read = (all_read read, read.prints)
whole_read None read = end_fault read

-- what reading a text gave is the one script that it spells, which prints, or its fault
pub all_told : (text : List ℕ) (result : Result Script ScriptFault) → MatchResult result (IsRead text) (IsFaultOf text)
    → IfOk result (λ r. Spells text r) × ((s : Script) → Spells text s → MatchResult result (λ r. r ≡ s) (λ f. f ≡ fault.NoMemory)) × IfOk result ScriptPrints × IfErr result (IsFaultOf text)
all_told text (Ok r) is = (is.0, λ s spells. same_Some r s (lines_once 1 None (lines text) is.0 spells), is.1, tt)
all_told text (Err fault.NoMemory) is = (tt, λ s spells. refl, tt, is)
all_told text (Err (fault.At number kind)) is = (tt, λ s spells. absurd (fault_spells_nothing text number kind s is spells), tt, is)
