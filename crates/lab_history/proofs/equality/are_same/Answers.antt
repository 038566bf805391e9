use Rattle.std.proofs.lemmas.Slice.Eq.{slice_eq-Decides}
use Rattle.lab_history.proofs.Equal.{entries_decided}
use Rattle.lab_history.proofs.equality.are_same.Goals as goal

pub returns : goal.returns
returns g c = slice_eq-Decides (entries_decided c.requires) c.args.a.now c.args.b.now c.eq.result c.eq.ensures
