use Rattle.std.proofs.Common.{◌-◌, arith}
use Rattle.lab_table.specs.Statement.{may_match}
use Rattle.lab_deps.proofs.Spans.{left_between}
use Rattle.lab_deps.proofs.span.within.Goals as goal

pub returns : goal.returns
returns g c =
    let span = c.span_of-span.result in
    let told = c.span_of-span.ensures in
    left_between (λ e. may_match c.args.statement.now e.0) c.args.entries.now span.from (span.to - span.from) (λ k d low below. told.before k d low)
    (λ k d at below. told.beyond k d (omega (arith, at, told.order)) below)
