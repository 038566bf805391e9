use Rattle.lab_session.proofs.turn.ended.Goals as goal

pub returns-then-is_full-clause-full : goal.returns-then-is_full-clause-full
returns-then-is_full-clause-full g c = c.is_full.ensures.0 c.if-is_full.true
