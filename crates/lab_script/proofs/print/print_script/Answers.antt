use Rattle.lab_script.proofs.{Common.{◌≡◌, ℕ, List, ◌++◌, ap, ◌∙◌, printed_script}, PrintedScripts.{script_spells}}
use Rattle.lab_script.proofs.print.print_script.Goals as goal

pub returns-then-spell_script-clause-again : goal.returns-then-spell_script-clause-again
returns-then-spell_script-clause-again c =
    let script = c.args.script.now in
    let text : c.spell_script.new.out.items ≡ printed_script script = c.if-spell_script.ensures.text ∙ ap (λ (front : List ℕ). front ++ printed_script script) c.new-text.ensures.items in
    rw text (script_spells script c.if-spell_script.ensures.in_range c.in_ok-check_script.ensures.prints)
