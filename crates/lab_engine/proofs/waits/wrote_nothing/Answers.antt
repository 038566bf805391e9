use Rattle.std.{proofs.Common.{sym, ap, ◌∙◌, length, ◌==◌}, specs.FinMap.{len-entries}}
use Rattle.lab_history.proofs.CountedEntries.{length_new_states}
use Rattle.lab_engine.proofs.waits.wrote_nothing.Goals as goal

pub returns : goal.returns
returns c = c.is_empty.ensures ∙ sym (ap (λ n. n == 0) (len-entries c.args.writes.now ∙ sym (ap length c.entries.ensures) ∙ length_new_states c.entries.result.now))
