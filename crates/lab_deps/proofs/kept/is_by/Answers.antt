use Rattle.std.{proofs.{Common.{sym, ◌∙◌}, lemmas.Slice.Eq.{slice_eq-Decides}}, specs.Cmp.{booleans_Decides}}
use Rattle.lab_deps.proofs.kept.is_by.Goals as goal

pub returns : goal.returns
returns c is = sym c.as_slice.ensures.value ∙ (slice_eq-Decides booleans_Decides c.as_slice.result.now c.args.answers.now c.eq.result c.eq.ensures).0 is
