use Rattle.std.{proofs.Common.{◌∙◌, ap}, specs.FinMap.{from_sorted, Entries.{where_key}}}
use Rattle.lab_table.specs.Row.{row_cmp}
use Rattle.lab_history.specs.VersionName.{new_states}
use Rattle.lab_cut.{specs.Chosen.{has}, proofs.{MadeEntries.{sorted_where}, SameShape.{retained}, Steps.{states_where}}}
use Rattle.lab_cut.proofs.rows.Chosen.writes.Goals as goal

pub new-requires : goal.new-requires
new-requires c =
    sorted_where (has c.args.self.now) c.args.writes.now (new_states c.entries.result.now) (new_states c.in_ok-left.left.items) c.entries.ensures
    (ap new_states c.in_ok-left.ensures ∙ states_where (has c.args.self.now) c.entries.result.now)

pub returns : goal.returns
returns c =
    c.new.ensures
    ∙ ap (λ l. from_sorted {R = row_cmp} l) (ap new_states c.in_ok-left.ensures ∙ states_where (has c.args.self.now) c.entries.result.now ∙ ap (where_key row_cmp (has c.args.self.now)) c.entries.ensures)
    ∙ retained (has c.args.self.now) c.args.writes.now
