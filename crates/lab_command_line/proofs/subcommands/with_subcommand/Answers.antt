use Rattle.std.proofs.lemmas.Result.{IfOk-at_ok, IfOk-weaker}
use Rattle.lab_command_line.specs.Subcommands.{HasSubcommands, IsNamed}
use Rattle.lab_command_line.proofs.NamedCommands.{names_added}
use Rattle.lab_command_line.proofs.subcommands.with_subcommand.Goals as goal

pub returns : goal.returns
returns c name names f m = IfOk-weaker c.subcommand.result _ _
    (λ new a. names_added _ _ new name names (IfOk-at_ok (HasSubcommands names) c.in_ok-command.was f)
    (IfOk-at_ok (IsNamed name) c.in_ok-more.was m) a)
    c.subcommand.ensures
