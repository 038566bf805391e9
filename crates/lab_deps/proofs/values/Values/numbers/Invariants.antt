use Rattle.std.proofs.Common.{◌≡◌, ◌++◌, Bool, drop}
use Rattle.lab_table.specs.Table.{State}
use Rattle.lab_deps.specs.Turns.{states, Heeds, asked, classes_of}
use Rattle.lab_deps.proofs.values.Values.numbers.Given as goal

abbrev pub invariant-loop-version : goal.invariant-loop-version
invariant-loop-version l = (f : State → Bool) → Heeds l.self.exact f
    → classes_of (asked f l.before l.self.others.items) l.numbers.items ++ asked f l.before (states (drop l.version-index l.versions)) ≡ asked f l.before (states l.versions)
