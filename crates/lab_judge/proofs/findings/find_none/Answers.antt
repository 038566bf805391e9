use Rattle.std.proofs.Common.{refl}
use Rattle.lab_judge.{specs.Phenomena.{NoG1a, NoG1b}, proofs.Levels.{none_aborted, none_intermediate}}
use Rattle.lab_judge.proofs.findings.find_none.Goals as goal

pub returns : goal.returns
returns c = λ h sound none.
    let aborted : NoG1a h = none_aborted h sound in
    let intermediate : NoG1b h = none_intermediate h sound in (
      (
        λ es w. none es w.0,
        aborted,
        intermediate,
        λ es w. none es w.0,
        λ es w. none es w.0,
        λ es w. none es w.0,
        λ es w. none es w.0,
        ((aborted, intermediate, λ es w. none es w.0), λ es w. none es w.0),
      ),
      record { seven = refl; g0 = tt; g1c = tt; g_single = tt; g2_item = tt; g2 = tt },
    )
