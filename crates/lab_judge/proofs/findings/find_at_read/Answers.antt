use Rattle.std.proofs.Common.{refl}
use Rattle.lab_deps.specs.KindSets.{is_write}
use Rattle.lab_judge.{specs.Phenomena.{IsG0}, proofs.WalkKinds.{found_circle}}
use Rattle.lab_judge.proofs.findings.find_at_read.Goals as goal

pub returns : goal.returns
returns c =
    let g0 = found_circle c.args.history.now is_write (IsG0 c.args.history.now) (λ es. (λ w. w, λ w. w)) _ c.in_ok-g0.ensures in
    record {
      found = (g0.0, c.find_aborted_read-g1a.ensures, c.find_intermediate_read-g1b.ensures, refl, refl, refl, refl, c.low_grade_of-level.ensures c.args.history.now c.requires.read g0.0);
      walks = record { seven = refl; g0 = g0.1; g1c = tt; g_single = tt; g2_item = tt; g2 = tt };
    }
