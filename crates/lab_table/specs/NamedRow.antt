-- Which rows a statement names by their numbers: by `id = n`, by `id in (..)`, or as the row of an insert.
use Rattle.std.specs.Prelude.{◌≡◌, ◌≤◌, ℕ, ℤ, pos, ◌⊎◌, Bool, Option, Some, None, List}
use Rattle.std.specs.List.{list_any}
use Rattle.std.specs.Ordering.{int_eq}
use Rattle.lab_table.specs.Row.{Row, id_of, numbered}
use Rattle.lab_table.specs.Predicate.{Predicate, Compare, Remainder, OneOf, Not, And, Or}
use Rattle.lab_table.specs.declared.predicate.Col.TheVariants.{Id}
use Rattle.lab_table.specs.declared.predicate.Cmp.TheVariants.{Eq}
use Rattle.lab_table.specs.declared.statement.Statement.{Statement}
use Rattle.lab_table.specs.declared.statement.StatementKind.{StatementKind}
use Rattle.lab_table.specs.declared.statement.StatementKind.TheVariants.{Select, Update, Insert, Delete}

-- a number is that of a row, of those that there can be
abbrev pub IsNumbered : ℤ → ℕ → Type 0
IsNumbered number id = (number ≡ pos id) × (1 ≤ id) × (id ≤ 999999)

-- a predicate is that the id is this, or an `and` of which a part is
abbrev pub Names : Predicate → ℕ → Type 0
Names (Compare col cmp number) id = (col ≡ Id) × (cmp ≡ Eq) × IsNumbered number id
Names (Remainder col modulus rest) id = ⊥
Names (OneOf col numbers) id = ⊥
Names (Not p) id = ⊥
Names (And p q) id = Names p id ⊎ Names q id
Names (Or p q) id = ⊥

-- what stands behind where does
abbrev pub WhereNames : Option Predicate → ℕ → Type 0
WhereNames None id = ⊥
WhereNames (Some p) id = Names p id

-- a statement names a row of its table: its predicate does, or it inserts it
abbrev pub KindNames : List ℕ → StatementKind → Row → Type 0
KindNames table (Select pred) row = (row.table ≡ table) × WhereNames pred row.id
KindNames table (Update expr pred) row = (row.table ≡ table) × WhereNames pred row.id
KindNames table (Insert id new) row = row ≡ numbered table id
KindNames table (Delete pred) row = (row.table ≡ table) × WhereNames pred row.id

abbrev pub StatementNames : Statement → Row → Type 0
StatementNames s = KindNames s.table s.kind

-- whether one of these is a row's number
abbrev pub has_number : List ℤ → Row → Bool
has_number numbers row = list_any (int_eq (id_of row)) numbers

-- a predicate is that the id is one of a list, or an `and` of which a part is
abbrev pub NamesIds : Predicate → Type 0
NamesIds (Compare col cmp number) = ⊥
NamesIds (Remainder col modulus rest) = ⊥
NamesIds (OneOf col numbers) = col ≡ Id
NamesIds (Not p) = ⊥
NamesIds (And p q) = NamesIds p ⊎ NamesIds q
NamesIds (Or p q) = ⊥

-- what stands behind where is
abbrev pub WhereNamesIds : Option Predicate → Type 0
WhereNamesIds None = ⊥
WhereNamesIds (Some p) = NamesIds p

-- a statement's predicate is
abbrev pub KindNamesIds : StatementKind → Type 0
KindNamesIds (Select pred) = WhereNamesIds pred
KindNamesIds (Update expr pred) = WhereNamesIds pred
KindNamesIds (Insert id new) = ⊥
KindNamesIds (Delete pred) = WhereNamesIds pred

abbrev pub StatementNamesIds : Statement → Type 0
StatementNamesIds s = KindNamesIds s.kind
