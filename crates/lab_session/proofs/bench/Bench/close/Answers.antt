use Rattle.std.proofs.Common.{sym, subst}
use Rattle.lab_session.{specs.Closing.{IsCloseFault}, proofs.Closings.{unrecorded_is}}
use Rattle.lab_session.proofs.bench.Bench.close.Goals as goal

pub returns-in-Err-clause-fault : goal.returns-in-Err-clause-fault
returns-in-Err-clause-fault g c =
    subst (IsCloseFault c.args.sessions c.args.self.now c.args.seats.now) (sym c.unrecorded.ensures)
    (unrecorded_is c.args.sessions c.args.self.now c.args.seats.now c.in-Err.fault c.in_ok-compare.ensures.closed c.in-Err.ensures.fault)
