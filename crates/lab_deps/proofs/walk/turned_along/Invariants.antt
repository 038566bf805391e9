use Rattle.std.proofs.Common.{◌≡◌, ◌++◌, false, drop}
use Rattle.lab_table.specs.Statement.{matches}
use Rattle.lab_deps.specs.Turns.{asked, states, turned}
use Rattle.lab_deps.proofs.walk.turned_along.Given as goal

abbrev pub invariant-loop-version : goal.invariant-loop-version
invariant-loop-version l =
    l.found.items ++ turned l.last (asked (matches l.statement l.row) l.fn.before (states (drop l.version-index l.versions))) (drop l.version-index l.versions)
    ≡ turned false (asked (matches l.statement l.row) l.fn.before (states l.versions)) l.versions
