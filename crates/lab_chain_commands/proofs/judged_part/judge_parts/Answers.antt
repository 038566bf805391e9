use Rattle.std.proofs.Common.{ap, ◌∙◌, IfOk}
use Rattle.rayon.proofs.ToStd.{slice-AllZip}
use Rattle.lab_chain_commands.proofs.PartLists.{Judges, all_answers}
use Rattle.lab_chain_commands.proofs.judged_part.judge_parts.Goals as goal

pub returns-in-Ok-Ok : goal.returns-in-Ok-Ok
returns-in-Ok-Ok g c =
    let slice = ap (λ it. it.base.slice.now) c.map.ensures.base ∙ ap (λ it. it.slice.now) c.with_min_len.ensures.base ∙ c.par_iter.ensures in
    let h = c.in-Ok-Ok.ensures in
    let chain = h.1 in
    let given = rw c.in-Ok-Ok.field-0-is at h.2 in
    rw given.2 (all_answers Judges c.args.inputs.now h.0 given.0 given.1
    (slice-AllZip chain.0 c.args.inputs.now (chain.1 ∙ slice) (λ input r. IfOk r (Judges input)) h.0 chain.2))
