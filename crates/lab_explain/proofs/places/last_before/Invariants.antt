use Rattle.std.{proofs.Common.{◌≡◌, None, drop}, specs.Prelude.{option_map}}
use Rattle.lab_judge.specs.Runs.{span_of, spans_of}
use Rattle.lab_explain.specs.Places.{last_before}
use Rattle.lab_explain.proofs.places.last_before.Given as goal

abbrev pub invariant-loop-span : goal.invariant-loop-span
invariant-loop-span l = last_before l.place (option_map span_of l.found) (spans_of (drop l.span-index l.spans)) ≡ last_before l.place None (spans_of l.spans)
