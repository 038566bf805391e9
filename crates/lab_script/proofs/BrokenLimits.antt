-- The limit that a transcript breaks is one that a statement of the script breaks.
use Rattle.lab_script.proofs.Common.{◌≡◌, ℕ, zero, suc, ◌<◌, Bool, true, false, cond, ◌==◌, List, [], ◌∷◌, ◌++◌, length, get_or, Option, Some, None, refl, sym, ◌∙◌, ◌⊎◌, inl, inr, subst, arith, ◌&&◌, not, nat_lt, IfSome, Contains, ltb-true, none-some, Table, Statement, Command, Line, Script, PrintFault, statement_depth, printed_statement, CommandPrints, AllPrint, SomeLine, body_on, body_of, inside_after, is_begin, nobody, transaction_of, transactions, table_with, table_after, Breaks, shown_of, shown, limit_broken, first_broken, unprintable}
use Rattle.lab_table.{specs.declared.statement.Command.TheVariants.{Begin, Commit, Abort, Run}, proofs.Members.{first_member, later_member}}
use Rattle.lab_printing.specs.declared.print.PrintFault.TheVariants.{TooDeep, TooLong}

-- a command that prints breaks no limit
command_prints : (fault : PrintFault) (c : Command) → CommandPrints c → Breaks fault c → ⊥
command_prints TooDeep (Run s) p h = omega arith
command_prints TooLong (Run s) p h = omega arith
command_prints TooDeep c p h = h
command_prints TooLong c p h = h
command_prints fault c p h = h

module _ (fault : PrintFault) where
  -- some statement of a list breaks this limit
  abbrev AnyBreaks : List Statement → Type 0
  AnyBreaks [] = ⊥
  AnyBreaks (s ∷ ss) = Breaks fault (Run s) ⊎ AnyBreaks ss

  -- some line's command breaks it
  abbrev SomeBreaks : List Line → Type 0
  SomeBreaks lines = (line : Line) × Contains lines line × Breaks fault line.command

  later : (line : Line) (lines : List Line) → SomeBreaks lines → SomeBreaks (line ∷ lines)
  later line lines (found, at, h) = (found, later_member line lines found at, h)

  too_long : (s : Statement) (b : Bool) → nat_lt 1000 (length (printed_statement s)) ≡ b → cond b (Some TooLong) None ≡ Some fault → Breaks fault (Run s)
  too_long s true is e = let same : TooLong ≡ fault = cc in subst (λ (f : PrintFault). Breaks f (Run s)) same (ltb-true 1000 (length (printed_statement s)) is)
  too_long s false is e = absurd (none-some fault e)

  too_deep : (s : Statement) (b : Bool) → nat_lt 16 (statement_depth s) ≡ b
      → cond b (Some TooDeep) (cond (nat_lt 1000 (length (printed_statement s))) (Some TooLong) None) ≡ Some fault → Breaks fault (Run s)
  too_deep s true is e = let same : TooDeep ≡ fault = cc in subst (λ (f : PrintFault). Breaks f (Run s)) same (ltb-true 16 (statement_depth s) is)
  too_deep s false is e = too_long s (nat_lt 1000 (length (printed_statement s))) refl e

  -- the limit that a statement breaks
  is_broken : (s : Statement) → limit_broken s ≡ Some fault → Breaks fault (Run s)
  is_broken s e = too_deep s (nat_lt 16 (statement_depth s)) refl e

  -- a limit that was broken before stays
  stays : (other : PrintFault) (ss : List Statement) → first_broken (Some other) ss ≡ Some other
  stays other [] = refl
  stays other (s ∷ ss) = stays other ss

  -- the first limit that statements break is broken by one of them
  any_first : (ss : List Statement) → first_broken None ss ≡ Some fault → AnyBreaks ss
  any_first [] e = absurd (none-some fault e)
  any_first (s ∷ ss) e =
      elim (limit_broken s) as (λ b. limit_broken s ≡ b → first_broken b ss ≡ Some fault → Breaks fault (Run s) ⊎ AnyBreaks ss) [
        | None ↦ λ _ rest. inr (any_first ss rest)
        | Some other ↦ λ is rest. inl (is_broken s (is ∙ sym (stays other ss) ∙ rest))
      ] refl e

  any_append : (a b : List Statement) → AnyBreaks (a ++ b) → AnyBreaks a ⊎ AnyBreaks b
  any_append [] b h = inr h
  any_append (s ∷ a) b (inl h) = inl (inl h)
  any_append (s ∷ a) b (inr h) = elim (any_append a b h) [ inl h ↦ inl (inr h) | inr h ↦ inr h ]

  -- what a transaction shows are statements of it
  any_shown_of : (table : Table) (ss : List Statement) → AnyBreaks (shown_of table ss) → AnyBreaks ss
  any_shown_of table [] h = h
  any_shown_of table (s ∷ ss) (inl h) = inl h
  any_shown_of table (s ∷ ss) (inr h) =
      inr (elim (table_with s table) as (λ (with : Option Table). AnyBreaks (elim with [ None ↦ [] | Some after ↦ shown_of after ss ]) → AnyBreaks ss) [
        | None ↦ λ none. absurd none
        | Some after ↦ λ some. any_shown_of after ss some
      ] h)

  -- a session's statements are statements of the lines
  any_on : (c : Command) (later : List Statement × Bool) → AnyBreaks (body_on c later).0 → Breaks fault c ⊎ AnyBreaks later.0
  any_on Begin later h = inr h
  any_on Commit later h = absurd h
  any_on Abort later h = absurd h
  any_on (Run s) later h = h

  any_of : (session : ℕ) (lines : List Line) → AnyBreaks (body_of session lines).0 → SomeBreaks lines
  any_of session [] h = absurd h
  any_of session (line ∷ lines) h =
      elim (line.session == session) as (λ b. AnyBreaks (cond b (body_on line.command (body_of session lines)) (body_of session lines)).0 → SomeBreaks (line ∷ lines)) [
        | true ↦ λ own. elim (any_on line.command (body_of session lines) own) [ inl at ↦ (line, first_member line lines, at) | inr after ↦ later line lines (any_of session lines after) ]
        | false ↦ λ other. later line lines (any_of session lines other)
      ] h

  -- what a script's transactions show are statements of its lines
  any_shown : (inside : ℕ → Bool) (table : Table) (lines : List Line) → AnyBreaks (shown table (transactions inside lines)) → SomeBreaks lines
  any_shown inside table [] h = absurd h
  any_shown inside table (line ∷ lines) h =
      let after : ℕ → Bool = inside_after inside line.session line.command in
      elim (is_begin line.command && not (inside line.session)) as
      (λ b. AnyBreaks (shown table (cond b (transaction_of line.session lines ∷ []) [] ++ transactions after lines)) → SomeBreaks (line ∷ lines)) [
        | true ↦ λ own. elim (any_append (shown_of table (body_of line.session lines).0) (shown (table_after table (transaction_of line.session lines)) (transactions after lines)) own) [
          | inl first ↦ later line lines (any_of line.session lines (any_shown_of table (body_of line.session lines).0 first))
          | inr others ↦ later line lines (any_shown after (table_after table (transaction_of line.session lines)) lines others)
        ]
        | false ↦ λ other. later line lines (any_shown after table lines other)
      ] h

  all_print : (lines : List Line) (line : Line) (k : ℕ) → k < length lines → get_or lines k line ≡ line → AllPrint lines → Breaks fault line.command → ⊥
  all_print [] line k below at p h = omega arith
  all_print (first ∷ lines) line zero below at p h = command_prints fault line.command (subst (λ (x : Line). CommandPrints x.command) at p.0) h
  all_print (first ∷ lines) line (suc k) below at p h = all_print lines line k (omega arith) at p.1 h

-- the limit that a transcript breaks is broken by a statement of the script
pub broken_in : (script : Script) (broken : Option PrintFault) → broken ≡ unprintable script → IfSome broken (λ fault. SomeLine (Breaks fault) script)
broken_in script None e = tt
broken_in script (Some fault) e =
    let some = any_shown fault nobody script.setup script.lines (any_first fault _ (sym e)) in
    record { line = some.0; stands = some.1; is = some.2 }

-- where all statements print, none is broken
pub printed_all : (script : Script) (broken : Option PrintFault) → broken ≡ unprintable script → AllPrint script.lines → broken ≡ None
printed_all script None e p = refl
printed_all script (Some fault) e p =
    let some = broken_in script (Some fault) e in
    absurd (all_print fault script.lines some.line some.stands.0 some.stands.1 some.stands.2 p some.is)
