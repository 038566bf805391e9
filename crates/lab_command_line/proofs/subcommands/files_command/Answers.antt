use Rattle.lab_command_line.proofs.subcommands.files_command.Goals as goal

pub returns : goal.returns
returns c name named = c.with_arg.ensures name (c.with_arg-command-5.ensures name (c.with_arg-command-4.ensures name
    (c.with_arg-command-3.ensures name (c.with_arg-command-2.ensures name (c.with_arg-command.ensures name named)))))
