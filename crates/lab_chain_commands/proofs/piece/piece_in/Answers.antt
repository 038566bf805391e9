use Rattle.std.specs.Prelude.{Some}
use Rattle.lab_chain_commands.proofs.piece.piece_in.Goals as goal

pub returns-in-Some : goal.returns-in-Some
returns-in-Some c = (Some c.deref-in-Some-true-Some.result.now, rw c.in-Some.is at c.in_ok-summary-in-Some-true-Some.ensures)

pub returns-in-None : goal.returns-in-None
returns-in-None c = (Some c.deref-in-Some-true-Some.result.now, tt)
