-- The first fault of a line: there is none exactly where its tokens are in the grammar, and what it tells where there is one.
use Rattle.lab_script.proofs.Common.{◌≡◌, ℕ, ◌≤◌, List, length, None, [], Option, Some, subst, ◌∙◌, Bool, true, false, refl, ◌↔◌, ◌-◌, is_some, not, if◌then◌else◌, Table, Command, Token, IsCommands, IsSetup, with_commands, setup_tables, script_tables, fifth_table, placed_kind, behind_tables, commands_read, setup_read, commands_placed, setup_placed, commands_fault, setup_fault, passed, Any, gives_of, stop_of, valued, faultless, are_four, no_fifth, fault_is, ScriptFaultKind, tokens, true≢false, code_of, remark_of, session_of, is_ascii_code, is_passed, begins_setup, none-some, same_Some, are_few, Script, is_over, remark_fault, tokens_fault, first_fault, TellsOfTokens, max_commands, with_tokens, with_setup_tokens}
use Rattle.lab_script.proofs.ReadCommands.{commands_again}
use Rattle.lab_script.proofs.ReadSetup.{setup_again}
use Rattle.lab_script.proofs.CommandsTaken.{commands_give}
use Rattle.lab_script.proofs.SetupTaken.{setup_gives}
use Rattle.lab_statement.proofs.FaultKinds.{Placed, unknown_placed}
use Rattle.std.specs.Option.{option_or}
use Rattle.lab_statement.specs.declared.fault.ScriptFaultKind.TheVariants as kinds

-- a line of commands, and a setup, without a fault

pub no_commands_fault : (names : List (List ℕ)) (room : ℕ) (ts : List Token)
    → (commands_fault names room ts ≡ None) ↔ ((cs : List Command) × IsCommands ts cs × (length cs ≤ room) × (length (with_commands names cs) ≤ 4))
no_commands_fault names room ts = (
  λ none.
      let v = valued (λ cs. fifth_table (with_commands names cs)) (commands_placed names ts) (commands_read room ts) none in
      let t = gives_of v.0 (commands_give {Fault = Any} tt tt tt tt tt room ts) v.1 in
      (v.0, t.0, t.1, are_four (with_commands names v.0) v.2),
  λ s. faultless (λ cs. fifth_table (with_commands names cs)) (commands_placed names ts) (commands_read room ts) s.0 (commands_again s.1 room s.2) (no_fifth (with_commands names s.0) s.3),
)

pub no_setup_fault : (ts : List Token) → (setup_fault ts ≡ None) ↔ ((table : Table) × IsSetup ts table × (length (setup_tables table) ≤ 4))
no_setup_fault ts = (
  λ none. let v = valued (λ table. fifth_table (setup_tables table)) (setup_placed ts) (setup_read ts) none in (v.0, gives_of v.0 (setup_gives {Fault = Any} tt tt tt tt ts (λ long. tt)) v.1, are_four (setup_tables v.0) v.2),
  λ s. faultless (λ table. fifth_table (setup_tables table)) (setup_placed ts) (setup_read ts) s.0 (setup_again s.1) (no_fifth (setup_tables s.0) s.2),
)

-- what is true of a fifth table is true of the fault, if nothing else is wrong
fifth_is : (Is : ScriptFaultKind → Type 0) (few : Bool) (f : ScriptFaultKind) → (if few then None else Some kinds.TooManyTables) ≡ Some f → Is kinds.TooManyTables → Is f
fifth_is Is true f e many = absurd (none-some f e)
fifth_is Is false f e many = subst Is (same_Some kinds.TooManyTables f e) many

-- and where something is wrong behind it
behind_is : (Is : ScriptFaultKind → Type 0) (names : List (List ℕ)) (kind : ScriptFaultKind) → Is kind → Is kinds.TooManyTables → Is (behind_tables names kind)
behind_is Is names kind wrong many = elim (are_few names) as (λ b. Is (if b then kind else kinds.TooManyTables)) [ true ↦ wrong | false ↦ many ]

module _ (ts : List Token) where
  -- the first fault of a setup
  setup_tells : (f : ScriptFaultKind) → setup_fault ts ≡ Some f → TellsOfTokens f ts None
  setup_tells f first =
      let Is = λ (kind : ScriptFaultKind). TellsOfTokens kind ts None in
      fault_is (λ table. fifth_table (setup_tables table)) (setup_placed ts) Is (setup_read ts) f first
      (λ table read e. fifth_is Is (are_few (setup_tables table)) f e tt)
      (λ kind left stops. behind_is Is (with_setup_tokens [] (passed ts (length left))) kind (stop_of kind left (setup_gives {Fault = Is} tt tt tt refl ts (λ long. long)) stops) tt)

  module _ (script : Script) where
    -- of commands
    commands_tell : (names : List (List ℕ)) (room : ℕ) (f : ScriptFaultKind) → commands_fault names room ts ≡ Some f → TellsOfTokens f ts (Some script)
    commands_tell names room f first =
        let Is = λ (kind : ScriptFaultKind). TellsOfTokens kind ts (Some script) in
        fault_is (λ cs. fifth_table (with_commands names cs)) (commands_placed names ts) Is (commands_read room ts) f first
        (λ cs read e. fifth_is Is (are_few (with_commands names cs)) f e tt)
        (λ kind left stops.
        behind_is Is (with_tokens names (passed ts (length left))) (placed_kind ts kind (length left))
        (stop_of kind left (commands_give {Fault = Placed Is ts} (unknown_placed Is ts tt (λ has. (refl, has)) tt tt refl) (λ n. tt) (λ n. tt) (λ n. refl) (λ n. tt) room ts) stops (length left)) tt)

    -- of a remark
    session_tells : (session : Bool) (f : ScriptFaultKind) → (if session then None else Some kinds.NoSession) ≡ Some f → TellsOfTokens f ts (Some script)
    session_tells true f first = absurd (none-some f first)
    session_tells false f first = subst (λ kind. TellsOfTokens kind ts (Some script)) (same_Some kinds.NoSession f first) tt

  -- of a line, by its tokens
  tokens_tell : (remark : List ℕ) (before : Option Script) (f : ScriptFaultKind) → tokens_fault ts remark before ≡ Some f → TellsOfTokens f ts before
  tokens_tell remark None f first = opened (begins_setup ts) first
    where
      opened : (begins : Bool) → (if begins then setup_fault ts else Some kinds.NoSetup) ≡ Some f → TellsOfTokens f ts None
      opened true e = setup_tells f e
      opened false e = subst (λ kind. TellsOfTokens kind ts None) (same_Some kinds.NoSetup f e) tt
  tokens_tell remark (Some script) f first = behind (begins_setup ts) (commands_fault names room ts) refl first
    where
      names : List (List ℕ)
      names = script_tables script

      room : ℕ
      room = max_commands - length script.lines

      behind : (begins : Bool) (found : Option ScriptFaultKind) → commands_fault names room ts ≡ found
          → (if begins then Some kinds.SetupRepeated else option_or found (remark_fault remark)) ≡ Some f → TellsOfTokens f ts (Some script)
      behind true found is e = subst (λ kind. TellsOfTokens kind ts (Some script)) (same_Some kinds.SetupRepeated f e) tt
      behind false (Some kind) is e = commands_tell script names room f (is ∙ e)
      behind false None is e = session_tells script (is_some (session_of remark)) f e

-- of a line that isn't over a limit
pub line_tells : (number : ℕ) (line : List ℕ) (before : Option Script) (f : ScriptFaultKind) → first_fault number line before ≡ Some f → is_over number line ≡ false
    → TellsOfTokens f (tokens (code_of line)) before
line_tells number line before f first = chosen (is_over number line) (is_ascii_code line) (is_passed line) first
  where
    ts : List Token
    ts = tokens (code_of line)

    chosen : (over ascii passed : Bool)
        → (if over then Some kinds.TooLong else if not ascii then Some kinds.NotAscii else if passed then None else tokens_fault ts (remark_of line) before) ≡ Some f
        → over ≡ false → TellsOfTokens f ts before
    chosen true ascii passed e isnt = absurd (true≢false isnt)
    chosen false false passed e isnt = subst (λ kind. TellsOfTokens kind ts before) (same_Some kinds.NotAscii f e) tt
    chosen false true true e isnt = absurd (none-some f e)
    chosen false true false e isnt = tokens_tell ts (remark_of line) before f e
