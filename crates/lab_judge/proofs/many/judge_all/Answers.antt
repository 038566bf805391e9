use Rattle.std.proofs.Common.{ap, ◌∙◌, IfOk}
use Rattle.rayon.proofs.ToStd.{slice-AllZip}
use Rattle.lab_judge.{specs.FileJudgement.{IsFileAnswer}, proofs.Answered.{all_answers}}
use Rattle.lab_judge.proofs.many.judge_all.Goals as goal

pub returns-in-Ok-Ok : goal.returns-in-Ok-Ok
returns-in-Ok-Ok g c =
    let slice = ap (λ it. it.base.slice.now) c.map.ensures.base ∙ ap (λ it. it.slice.now) c.with_min_len.ensures.base ∙ c.par_iter.ensures in
    let h = c.in-Ok-Ok.ensures in
    let chain = h.1 in
    let given = rw c.in-Ok-Ok.field-0-is at h.2 in
    rw given.2 (all_answers (λ file answer. IsFileAnswer file.items answer) c.args.files.now h.0 given.0 given.1
    (slice-AllZip chain.0 c.args.files.now (chain.1 ∙ slice) (λ file r. IfOk r (IsFileAnswer file.items)) h.0 chain.2))
