use Rattle.std.proofs.{Common.{inl}, lemmas.Result.{IfOk-weaker}}
use Rattle.lab_streams.proofs.telling.OfFileSubcommand.answer.Goals as goal

pub returns-in-Ok : goal.returns-in-Ok
returns-in-Ok g c = IfOk-weaker c.tell.result _ _ (λ answer told. inl (record { history = c.in-Ok.history; held = c.in-Ok.ensures.held; told = told })) c.tell.ensures
