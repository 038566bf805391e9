use Rattle.std.proofs.Common.{◌∙◌, sym, ap, length}
use Rattle.lab_history.{specs.RunningCounts.{counted}, proofs.CountedEntries.{length_new_states, counts_met}}
use Rattle.lab_history.proofs.limits.count_op.Goals as goal

pub returns-clause-value : goal.returns-clause-value
returns-clause-value c =
    let first = c.in_ok-total.ensures.value ∙ ap (λ es. counted c.args.total (length es)) c.entries.ensures in
    let second = c.in_ok-total-2.ensures.value ∙ ap (λ es. counted c.in_ok-total.total (length es)) c.entries-2.ensures in
    let third = c.count-3.ensures.value ∙ ap (counted c.in_ok-total-2.total) (sym (length_new_states c.entries-3.result.now) ∙ ap length c.entries-3.ensures) in
    third ∙ counts_met c.args.total c.args.op.now c.in_ok-total.total c.in_ok-total-2.total first second
