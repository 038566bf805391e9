use Rattle.std.proofs.Common.{codes}
use Rattle.lab_command_line.proofs.subcommands.run_command.Goals as goal

pub returns : goal.returns
returns c = c.with_arg.ensures (codes "run") (c.with_arg-command-6.ensures _ (c.with_arg-command-5.ensures _
    (c.with_arg-command-4.ensures _ (c.with_arg-command-3.ensures _ (c.with_arg-command-2.ensures _
    (c.with_arg-command.ensures _ c.plain_command.ensures))))))
