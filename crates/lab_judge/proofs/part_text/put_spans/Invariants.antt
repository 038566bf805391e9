use Rattle.std.proofs.Common.{◌≡◌, ◌++◌, drop, flat_map}
use Rattle.lab_judge.specs.{ReportText.{span_text}, Runs.{spans_of}}
use Rattle.lab_judge.proofs.part_text.put_spans.Given as goal

abbrev pub invariant-loop-txn : goal.invariant-loop-txn
invariant-loop-txn l = l.out.items ++ flat_map span_text (spans_of (drop l.txn-index l.spans)) ≡ l.initial.out.items ++ flat_map span_text (spans_of l.spans)
