use Rattle.lab_script.proofs.{Common.{Any, gives_of, on_ok_weaker}, CommandsTaken.{commands_give}}
use Rattle.lab_script.proofs.command.read_commands.Goals as goal

pub returns-in-Ok-clause-found : goal.returns-in-Ok-clause-found
returns-in-Ok-clause-found c =
    on_ok_weaker c.add_few.result (λ _. (gives_of _ (commands_give {Fault = Any} tt tt tt tt tt c.args.room c.args.tokens.now) c.in-Ok.ensures).0) c.add_few.ensures.tables

pub returns-in-Ok-clause-within : goal.returns-in-Ok-clause-within
returns-in-Ok-clause-within c =
    on_ok_weaker c.add_few.result (λ _. (gives_of _ (commands_give {Fault = Any} tt tt tt tt tt c.args.room c.args.tokens.now) c.in-Ok.ensures).1) c.add_few.ensures.tables
