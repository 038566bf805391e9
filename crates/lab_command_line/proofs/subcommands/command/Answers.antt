use Rattle.lab_command_line.proofs.subcommands.command.Goals as goal

pub returns : goal.returns
returns c = c.with_subcommand.ensures _ _ (c.with_subcommand-command-11.ensures _ _ (c.with_subcommand-command-10.ensures _ _
    (c.with_subcommand-command-9.ensures _ _ (c.with_subcommand-command-8.ensures _ _ (c.with_subcommand-command-7.ensures _ _
    (c.with_subcommand-command-6.ensures _ _ (c.with_subcommand-command-5.ensures _ _ (c.with_subcommand-command-4.ensures _ _
    (c.with_subcommand-command-3.ensures _ _ (c.with_subcommand-command-2.ensures _ _ (c.with_subcommand-command.ensures _ _
    c.program.ensures c.plain_command-serial.ensures) c.run_command.ensures) c.compare_command.ensures) c.judge_command.ensures)
    c.batch_command.ensures) c.chain_command.ensures) c.case_command.ensures) c.matrix_command.ensures)
    c.picture_command.ensures) c.explain_command.ensures) c.page_command.ensures) c.shrink_command.ensures
