use Rattle.std.proofs.Common.{length}
use Rattle.lab_history_file.proofs.Gathered.{Gathering}
use Rattle.lab_history_file.proofs.reading.stream.object.read_object.Given as goal

abbrev pub invariant-members : goal.invariant-members
invariant-members g l = Gathering g.F.Fields.LEVELS (g.F.Fields.hold l.version) l.fn.cursor l.cursor l.fn.fields l.fields

abbrev pub decreases-members : goal.decreases-members
decreases-members g l = length l.cursor
