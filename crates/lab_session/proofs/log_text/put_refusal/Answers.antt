use Rattle.std.proofs.Common.{◌++◌, sym, ap, ◌∙◌}
use Rattle.lab_session.specs.LogText.{refusal_text}
use Rattle.lab_session.proofs.log_text.put_refusal.Goals as goal

pub returns-in_ok-put_conflict-in-ReadConflict : goal.returns-in_ok-put_conflict-in-ReadConflict
returns-in_ok-put_conflict-in-ReadConflict c =
    c.in_ok-put_conflict-in-ReadConflict.ensures ∙ ap (λ fault. c.args.out.now.items ++ refusal_text fault) (sym c.in-ReadConflict.is)
