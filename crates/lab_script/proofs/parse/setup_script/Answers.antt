use Rattle.lab_script.proofs.Common.{◌≤◌, Some, length, ap, subst, ◌∙◌}
use Rattle.lab_script.proofs.parse.setup_script.Goals as goal

pub returns-in-Ok-clause-found : goal.returns-in-Ok-clause-found
returns-in-Ok-clause-found c = λ remark. (
  c.in-Ok.setup,
  c.in-Ok.ensures.found,
  subst (λ names. length names ≤ 4) c.in-Ok.ensures.tables c.read_setup.new.tables.few,
  ap (λ lines. Some (record { setup = c.in-Ok.setup; lines = lines })) (c.new-in-Ok.ensures ∙ c.new.ensures.items),
)
