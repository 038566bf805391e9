-- The first fault of tokens: where reading stops, and none exactly where they are in the grammar.
use Rattle.lab_statement.proofs.Common.{◌≡◌, ℕ, ◌≤◌, Bool, true, false, List, length, Option, Some, None, refl, subst, ◌↔◌, if◌then◌else◌, le-leb, leb-true, Statement, ScriptFaultKind, TooManyTables, Token, IsWholeStatement, Reading, Reads, Stops, whole_statement_read, placed_kind, fault_of, fifth_table, statement_fault, same_Some}
use Rattle.lab_table.specs.TableSet.{are_few}
use Rattle.lab_statement.proofs.ReadStatements.{whole_takes, whole_again}

-- a reading has no fault exactly where it has a value that has none
module _ {X : Type 0} (of : X → Option ScriptFaultKind) (placed : ScriptFaultKind → ℕ → ScriptFaultKind) where
  pub valued : (r : Reading X) → fault_of of placed r ≡ None → (x : X) × (r ≡ Reads x) × (of x ≡ None)
  valued (Reads x) none = (x, refl, none)
  valued (Stops kind left) none = absurd cc

  pub faultless : (r : Reading X) (x : X) → r ≡ Reads x → of x ≡ None → fault_of of placed r ≡ None
  faultless r x is none = rw is none

  -- what holds of the fault of each value and of each stop holds of the fault
  pub fault_is : (Is : ScriptFaultKind → Type 0) (r : Reading X) (f : ScriptFaultKind) → fault_of of placed r ≡ Some f → ((x : X) → r ≡ Reads x → of x ≡ Some f → Is f)
      → ((kind : ScriptFaultKind) (left : List Token) → r ≡ Stops kind left → Is (placed kind (length left))) → Is f
  fault_is Is (Reads x) f e valued stopped = valued x refl e
  fault_is Is (Stops kind left) f e valued stopped = subst Is (same_Some (placed kind (length left)) f e) (stopped kind left refl)

-- names of tables that are few, and of which one is a fifth
none_of : (few : Bool) → (if few then None else Some TooManyTables) ≡ None → few ≡ true
none_of true none = refl
none_of false none = absurd cc

pub are_four : (names : List (List ℕ)) → fifth_table names ≡ None → length names ≤ 4
are_four names none = leb-true (length names) 4 (none_of (are_few names) none)

pub no_fifth : (names : List (List ℕ)) → length names ≤ 4 → fifth_table names ≡ None
no_fifth names few = rw (le-leb (length names) 4 few) refl

-- statements without a fault
pub no_statement_fault : (ts : List Token) → (statement_fault ts ≡ None) ↔ ((s : Statement) × IsWholeStatement ts s)
no_statement_fault ts = (
  λ none. let v = valued (λ s. None) (placed_kind ts) (whole_statement_read ts) none in (v.0, whole_takes ts v.0 v.1),
  λ s. faultless (λ s. None) (placed_kind ts) (whole_statement_read ts) s.0 (whole_again s.1) refl,
)
