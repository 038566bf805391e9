use Rattle.std.{proofs.Common.{◌≡◌, map}, specs.Prelude.{filter}}
use Rattle.lab_commands.specs.ListedNames.{is_name}
use Rattle.lab_commands.proofs.listed.parted.Given as goal

abbrev pub invariant-loop-name : goal.invariant-loop-name
invariant-loop-name l = map (λ name. name.now) l.names.items ≡ filter is_name (map (λ name. name.now) l.yielded)
