use Rattle.std.proofs.Common.{sym, ap, subst}
use Rattle.lab_engine.specs.Journal.{EngineRun}
use Rattle.lab_session.specs.{Bench.{IsSoundRun}, Closing.{IsCloseFault}}
use Rattle.lab_session.proofs.lab.Lab.close.Goals as goal

pub returns-in-Err-clause-fault : goal.returns-in-Err-clause-fault
returns-in-Err-clause-fault g c =
    let run = c.into_inner-bench.result.bench in (
      c.bench.inside.engine,
      (
        run,
        sym (ap (λ (r : EngineRun). r.level) c.bench.view_is),
        sym (ap (λ (r : EngineRun). r.setup) c.bench.view_is),
        subst IsSoundRun c.bench.view_is c.bench.invariant,
        subst (λ n. IsCloseFault n run c.args.seats.items c.in-Err.fault) c.self.view_is
            (subst (λ seats. IsCloseFault c.self.inside.sessions run seats c.in-Err.fault) c.deref.ensures.value c.in-Err.ensures.fault),
      ),
    )
