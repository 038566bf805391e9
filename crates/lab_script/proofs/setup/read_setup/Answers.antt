use Rattle.lab_script.proofs.{Common.{Any, gives_of, ok_behind}, SetupTaken.{setup_gives}}
use Rattle.lab_script.proofs.setup.read_setup.Goals as goal

pub returns-in-Ok-clause-found : goal.returns-in-Ok-clause-found
returns-in-Ok-clause-found c = rw c.and.ensures (ok_behind c.add_few.result c.in-Ok.table _ (λ _ _. gives_of _ (setup_gives {Fault = Any} tt tt tt tt c.args.tokens.now (λ long. tt)) c.in-Ok.ensures))
