-- The named sets of kinds are those that their names say.
use Rattle.std.proofs.Common.{◌≡◌, refl}
use Rattle.lab_deps.specs.{KindSets.{among, is_any, is_write, is_flow, is_anti, is_item_anti}, declared.{edge.Kind.{Kind}, kinds.TheConstants.Kinds.{ALL, WRITES, FLOW, ANTI, ITEM_ANTI}}}
use Rattle.lab_deps.proofs.EachKind.{each_kind}

pub all_has : (kind : Kind) → among ALL kind ≡ is_any kind
all_has = each_kind (λ kind. among ALL kind ≡ is_any kind) refl refl refl refl refl

pub writes_has : (kind : Kind) → among WRITES kind ≡ is_write kind
writes_has = each_kind (λ kind. among WRITES kind ≡ is_write kind) refl refl refl refl refl

pub flow_has : (kind : Kind) → among FLOW kind ≡ is_flow kind
flow_has = each_kind (λ kind. among FLOW kind ≡ is_flow kind) refl refl refl refl refl

pub antis_has : (kind : Kind) → among ANTI kind ≡ is_anti kind
antis_has = each_kind (λ kind. among ANTI kind ≡ is_anti kind) refl refl refl refl refl

pub item_antis_has : (kind : Kind) → among ITEM_ANTI kind ≡ is_item_anti kind
item_antis_has = each_kind (λ kind. among ITEM_ANTI kind ≡ is_item_anti kind) refl refl refl refl refl

pub all_named : among ALL ≡ is_any
all_named = λ i kind. all_has kind i

pub writes_named : among WRITES ≡ is_write
writes_named = λ i kind. writes_has kind i

pub flow_named : among FLOW ≡ is_flow
flow_named = λ i kind. flow_has kind i

pub antis_named : among ANTI ≡ is_anti
antis_named = λ i kind. antis_has kind i

pub item_antis_named : among ITEM_ANTI ≡ is_item_anti
item_antis_named = λ i kind. item_antis_has kind i
