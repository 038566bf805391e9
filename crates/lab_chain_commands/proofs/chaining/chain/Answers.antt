use Rattle.std.proofs.Common.{inr, rules}
use Rattle.lab_chain_commands.proofs.ChainWindows.{begun_with_all, answered}
use Rattle.lab_chain_commands.proofs.chaining.chain.Goals as goal

pub returns-in_default-clause-begun : goal.returns-in_default-clause-begun
returns-in_default-clause-begun g c = inr (begun_with_all c.args.asked _ _ _ _ _ c.in-Ok.ensures.said)

pub returns-in-Ok-written-clause-written : goal.returns-in-Ok-written-clause-written
returns-in-Ok-written-clause-written g c =
    answered c.args.asked _ _ _ _ _ c.in-Ok.ensures.said (g.W.Write.contents c.write_text-written.new.writer) c.in-Ok-print_whole.text.items c.max-status.result
    c.in-Ok-print_whole.ensures (rw c.deref.ensures.value at (rw c.in-Ok-written.is at c.write_text-written.ensures.written)) (search rules)
