use Rattle.std.{proofs.Common.{◌≡◌, ◌∙◌, Some, sym, ap, subst, IfOk}, specs.{Prelude.{option_and_then}, FinMap.{entries}}}
use Rattle.lab_history.{specs.RunningCounts.{only_if, rows_within}, proofs.CountedRows.{states_within}}
use Rattle.lab_history.proofs.ids.Ids.add_op.Goals as goal

pub returns : goal.returns
returns c =
    let op = c.args.op.now in
    let seen = c.args.self.now in
    let first : rows_within seen (entries op.view) ≡ Some c.add_rows.new.self =
    ap (rows_within seen) (sym c.entries.ensures) ∙ sym c.in_ok-add_rows.ensures ∙ ap (λ b. only_if b c.add_rows.new.self) c.if-not-branch.false in
    let second : option_and_then (λ more. rows_within more (entries op.rows)) (rows_within seen (entries op.view)) ≡ Some c.add_rows-2.new.self =
    ap (option_and_then (λ more. rows_within more (entries op.rows))) first ∙ ap (rows_within c.add_rows.new.self) (sym c.entries-2.ensures)
    ∙ sym c.in_ok-add_rows-2.ensures ∙ ap (λ b. only_if b c.add_rows-2.new.self) c.if-not-branch-2.false in
    let third = states_within c.add_rows-2.new.self c.entries-3.result.now ∙ ap (rows_within c.add_rows-2.new.self) c.entries-3.ensures
    ∙ sym (ap (option_and_then (λ more. rows_within more (entries op.writes))) second) in
    subst (λ l. IfOk c.add_rows-3.result (λ few. only_if few c.add_rows-3.new.self ≡ l)) third c.add_rows-3.ensures
