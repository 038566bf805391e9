use Rattle.std.proofs.Common.{◌≡◌, ◌++◌, drop, flat_map}
use Rattle.lab_judge.specs.Runs.{spans_of}
use Rattle.lab_explain.specs.Places.{span_text}
use Rattle.lab_explain.proofs.places.put_told_spans.Given as goal

abbrev pub invariant-loop-txn : goal.invariant-loop-txn
invariant-loop-txn l =
    l.out.items ++ flat_map (span_text (spans_of l.spans)) (spans_of (drop l.txn-index l.told)) ≡ l.initial.out.items ++ flat_map (span_text (spans_of l.spans)) (spans_of l.told)
