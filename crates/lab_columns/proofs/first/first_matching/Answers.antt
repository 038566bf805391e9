use Rattle.std.{proofs.Common.{ℤ, sym, ap, ◌∙◌}, specs.Prelude.{is_some, option_map}}
use Rattle.lab_table.specs.Row.{Row}
use Rattle.lab_columns.proofs.Blocks.{found_in_front, found_behind}
use Rattle.lab_columns.proofs.first.first_matching.Goals as goal

pub returns-then-is_some : goal.returns-then-is_some
returns-then-is_some g c = λ passes each off.
    let row = λ (e : Row × ℤ). e.0 in
    let here = c.first_of_block-found.ensures passes each off in
    here
    ∙ found_in_front row (λ e. passes e.0 e.1) _ _ _ c.split_at.ensures.by_index.0 (sym (ap is_some here) ∙ sym c.is_some.ensures ∙ c.if-is_some.true)
    ∙ ap (option_map row) (c.loop-rest.invariant passes each off)

pub loop-rest-preserved : goal.loop-rest-preserved
loop-rest-preserved g c = λ passes each off.
    found_behind (λ (e : Row × ℤ). e.0) (λ e. passes e.0 e.1) _ _ _ c.split_at.ensures.by_index.0
    (sym (ap is_some (c.first_of_block-found.ensures passes each off)) ∙ sym c.is_some.ensures ∙ c.if-is_some.false)
    ∙ c.loop-rest.invariant passes each off
