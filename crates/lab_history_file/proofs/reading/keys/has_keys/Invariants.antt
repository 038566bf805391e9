use Rattle.std.proofs.Common.{◌≡◌, map, drop}
use Rattle.serde_json.specs.{Find.{as_object}, View.{view}}
use Rattle.lab_history_file.{specs.Format.{has_keys}, proofs.Keys.{same_keys}}
use Rattle.lab_history_file.proofs.reading.keys.has_keys.Given as goal

abbrev pub invariant-loop-name : goal.invariant-loop-name
invariant-loop-name l =
    same_keys (map (λ name. name.now) (drop l.name-index l.names)) l.keys ≡ has_keys (map (λ name. name.now) l.names) (as_object (view l.json))
