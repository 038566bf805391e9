-- Sets of dependency kinds: any, write, anti, anti at a listed row, and the kinds that aren't anti-dependencies.
use Rattle.std.specs.Prelude.{Bool, true, false, not}
use Rattle.lab_deps.specs.KindBits.{has_bit}
use Rattle.lab_deps.specs.declared.edge.Kind.{Kind}
use Rattle.lab_deps.specs.declared.edge.Kind.TheVariants.{Write, ItemRead, PredicateRead, ItemAnti, PredicateAnti}
use Rattle.lab_deps.specs.declared.kinds.Kinds.{Kinds}

-- whether a set has a kind
abbrev pub among : Kinds → Kind → Bool
among kinds kind = has_bit kinds.bits kind

-- each kind
abbrev pub is_any : Kind → Bool
is_any kind = true

-- whether a dependency is a write after a write
abbrev pub is_write : Kind → Bool
is_write Write = true
is_write ItemRead = false
is_write PredicateRead = false
is_write ItemAnti = false
is_write PredicateAnti = false

-- whether a kind of dependency is an anti-dependency
abbrev pub is_anti : Kind → Bool
is_anti Write = false
is_anti ItemRead = false
is_anti PredicateRead = false
is_anti ItemAnti = true
is_anti PredicateAnti = true

-- whether a dependency is on what the other transaction wrote: no anti-dependency
abbrev pub is_flow : Kind → Bool
is_flow kind = not (is_anti kind)

-- whether a dependency is from a reader of a row to the next writer of it
abbrev pub is_item_anti : Kind → Bool
is_item_anti Write = false
is_item_anti ItemRead = false
is_item_anti PredicateRead = false
is_item_anti ItemAnti = true
is_item_anti PredicateAnti = false
