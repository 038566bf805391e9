use Rattle.lab_engine.proofs.{Common.{ap, cons_option, IfOk-weaker, IfSome, may_match, Row, seen_in, subst, true, with_row, [], ◌∙◌, ◌≡◌, matched}, Overlaid.{named_matching}}
use Rattle.lab_engine.proofs.reading.rows_matching.Goals as goal

pub returns-in-Some : goal.returns-in-Some
returns-in-Some c =
    let s = c.args.statement.now in
    let row = c.in-Some.row in
    IfOk-weaker c.entry_of.result _ _
    (λ v made.
    named_matching s row (subst (λ o. IfSome o (λ r. (other : Row) → may_match s other ≡ true → other ≡ r)) c.in-Some.is c.named_row.ensures.only)
    (seen_in c.args.asker.now) v.items
    (made ∙ ap (λ o. cons_option o []) (c.matching_entry.ensures ∙ ap (λ v. with_row row (matched s row v.state)) c.row_seen-seen.ensures)))
    c.entry_of.ensures
