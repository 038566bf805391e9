use Rattle.lab_script.proofs.{Common.{sym, ap, ◌∙◌, with_commands, script_tables}, FewTables.{tables_extended}}
use Rattle.lab_script.proofs.parse.add_commands.Goals as goal

pub returns-clause-named : goal.returns-clause-named
returns-clause-named c =
    c.in-Ok.ensures.tables ∙ ap (λ names. with_commands names c.read_commands.new.commands.items) c.requires.named
    ∙ sym (ap script_tables c.in_ok-take.ensures ∙ tables_extended c.args.script.now c.in-Some.session c.args.number c.read_commands.new.commands.items)
