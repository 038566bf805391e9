use Rattle.std.{proofs.Common.{rules}, specs.{Prelude.{is_none}, FinMap.{get}}}
use Rattle.lab_deps.proofs.miswritten.changed_unlisted.Goals as goal

pub returns : goal.returns
returns c = c.first_written.ensures (λ row. is_none (get c.args.op.now.rows row)) (λ row b post. search rules)
