-- A code for the versions of a row.
use Rattle.std.specs.Prelude.{◌≡◌, List, refl}
use Rattle.std.specs.Coded.{Coded, coded×, coded_list, coded_option, coded_ℤ, code_by}
use Rattle.lab_table.specs.Table.{State}
use Rattle.lab_deps.specs.EdgesByRow.{Chain, chain}
use Rattle.lab_deps.specs.declared.versions.Version.{Version}

-- a chain as a pair
abbrev pub chain_parts : Chain → State × List Version
chain_parts c = (c.before, c.items)

abbrev pub chain_from : State × List Version → Chain
chain_from p = chain p.0 p.1

-- a chain is made again of its parts
pub chain_from_parts : (c : Chain) → chain_from (chain_parts c) ≡ c
chain_from_parts c = refl

-- a chain is stored as its parts
abbrev pub coded_chain : Coded Version → Coded Chain
coded_chain version = code_by (State × List Version) (coded× (coded_option coded_ℤ) (coded_list version)) chain_parts chain_from chain_from_parts
