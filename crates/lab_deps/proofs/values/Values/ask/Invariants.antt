use Rattle.std.proofs.Common.{◌≡◌, ◌++◌, drop}
use Rattle.lab_table.specs.Statement.{matches}
use Rattle.lab_deps.specs.Turns.{asked}
use Rattle.lab_deps.proofs.values.Values.ask.Given as goal

abbrev pub invariant-loop-value : goal.invariant-loop-value
invariant-loop-value l = l.answers.items ++ asked (matches l.statement l.row) l.before (drop l.value-index l.self.others.items) ≡ asked (matches l.statement l.row) l.before l.self.others.items
