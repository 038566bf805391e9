use Rattle.std.proofs.Common.{◌∙◌, sym}
use Rattle.lab_history.specs.VersionName.{state_value}
use Rattle.lab_deps.proofs.LastOperations.{made_some}
use Rattle.lab_deps.proofs.lookup.writes_at.Goals as goal

pub returns-in-Some : goal.returns-in-Some
returns-in-Some c = λ t. (c.in-Some.op.now, sym c.in-Some.ensures, made_some state_value c.written_near.result _ c.written_near.ensures (sym c.is_some.ensures ∙ t))
