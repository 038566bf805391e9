use Rattle.std.{proofs.Common.{◌-◌, drop, length, ap, ◌∙◌}, specs.Prelude.{unwrap_or}}
use Rattle.lab_table.specs.Sessions.{of_session}
use Rattle.lab_compare.proofs.Left.{noted, passed}
use Rattle.lab_compare.proofs.cells.note.Goals as goal

pub returns : goal.returns
returns c =
    let log = c.args.log.now in
    let old = c.args.places.now in
    let counted =
    c.saturating_sub-2.ensures
    ∙ ap (λ n. length log - n) (c.saturating_sub-behind.ensures ∙ ap (λ n. n - 1) (c.saturating_sub.ensures ∙ ap (λ left. length left - c.args.place) c.left_of-left.ensures)) in
    noted log old _ c.args.session c.args.place _ c.requires
    (ap (λ n. drop n log) counted ∙ passed log (unwrap_or (of_session old c.args.session) 0) c.args.place)
    (λ other. c.set.ensures.each other)
