-- Why a play was refused, at the level and on the setup that its engine was made with.
use Rattle.std.proofs.Common.{◌≡◌, subst, Result, IfErr}
use Rattle.lab_table.specs.Table.{Table}
use Rattle.lab_engine.specs.declared.event.Level.{Level}
use Rattle.lab_session.specs.declared.fault.PlayFault.{PlayFault}

pub refused_at : {X : Type 0} (IsFault : Level → Table → PlayFault → Type 0) (result : Result X PlayFault) (level kind : Level) (setup opening : Table) → kind ≡ level → opening ≡ setup
    → IfErr result (IsFault kind opening) → IfErr result (IsFault level setup)
refused_at IsFault result level kind setup opening at on fault =
    subst (λ s. IfErr result (IsFault level s)) on (subst (λ l. IfErr result (IsFault l opening)) at fault)
