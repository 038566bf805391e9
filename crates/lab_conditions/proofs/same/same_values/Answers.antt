use Rattle.std.proofs.lemmas.{Bool.Decides.{Decides-int_eq}, Slice.Eq.{slice_eq-Decides}}
use Rattle.lab_conditions.proofs.same.same_values.Goals as goal

pub returns : goal.returns
returns c = slice_eq-Decides Decides-int_eq _ _ _ c.eq.ensures
