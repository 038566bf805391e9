use Rattle.std.proofs.Common.{ap, ◌∙◌}
use Rattle.lab_compare.specs.Comparison.{side_of}
use Rattle.lab_compare.proofs.playing.side.Goals as goal

pub returns-clause-side : goal.returns-clause-side
returns-clause-side c = record {
  recording = c.in_ok-recording.recording;
  played = c.in_ok-recording.ensures.play;
  report = c.in_ok-report.report;
  judgement = c.in_ok-report.ensures.exact;
  side_is = c.in_ok-side_of.ensures ∙ ap (λ lines. side_of c.args.level lines c.in_ok-recording.recording c.in_ok-report.report) c.as_slice.ensures;
}
