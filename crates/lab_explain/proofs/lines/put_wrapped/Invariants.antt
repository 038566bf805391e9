use Rattle.std.proofs.Common.{◌≡◌, ◌++◌, ◌≤◌, ◌+◌, drop}
use Rattle.lab_explain.specs.Lines.{wrapped}
use Rattle.lab_explain.proofs.lines.put_wrapped.Given as goal

abbrev pub invariant-loop-index : goal.invariant-loop-index
invariant-loop-index l = record {
  same : l.out.items ++ wrapped l.column (drop l.index l.text) ≡ l.initial.out.items ++ wrapped l.before l.text;
  within : l.column ≤ l.index + 4;
}
