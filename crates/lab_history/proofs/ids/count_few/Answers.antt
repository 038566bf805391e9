use Rattle.std.{proofs.Common.{◌≡◌, List, [], sym, ap, ◌∙◌}, specs.{Prelude.{nat_le}, FinMap.{keys}}}
use Rattle.lab_table.specs.Row.{Row}
use Rattle.lab_history.{specs.RunningCounts.{only_if, parts_within}, proofs.{RowsMet.{keys_empty}, IdsWithin.{many_on_the_way, all_met}}}
use Rattle.lab_history.proofs.ids.count_few.Goals as goal

pub returns-then-not-branch : goal.returns-then-not-branch
returns-then-not-branch c =
    let parts = c.args.parts.now in
    let met : parts_within [] parts ≡ only_if c.in_ok-add_parts.field-0 c.add_parts.new.self =
    ap (λ (l : List Row). parts_within l parts) (sym (ap keys c.new.ensures ∙ keys_empty _)) ∙ sym c.in_ok-add_parts.ensures in
    sym (many_on_the_way parts (met ∙ ap (λ b. only_if b c.add_parts.new.self) c.if-not-branch.true))

pub returns : goal.returns
returns c =
    let parts = c.args.parts.now in
    let met : parts_within [] parts ≡ only_if c.in_ok-add_parts.field-0 c.add_parts.new.self =
    ap (λ (l : List Row). parts_within l parts) (sym (ap keys c.new.ensures ∙ keys_empty _)) ∙ sym c.in_ok-add_parts.ensures in
    c.are_few.ensures ∙ ap (λ n. nat_le n 1000) (all_met parts c.add_parts.new.self (met ∙ ap (λ b. only_if b c.add_parts.new.self) c.if-not-branch.false))
