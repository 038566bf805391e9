use Rattle.std.proofs.Common.{refl, sym, rules}
use Rattle.lab_matrix.proofs.CasePlays.{cell_is, fault_is}
use Rattle.lab_matrix.proofs.filling.judged.Goals as goal

pub returns-in_ok-judge_recording-in-Ok-clause-cell : goal.returns-in_ok-judge_recording-in-Ok-clause-cell
returns-in_ok-judge_recording-in-Ok-clause-cell g c =
    cell_is c.args.name _ _ _ c.args.script.now c.requires.script c.requires.setup refl
    c.in-Ok.recording c.in_ok-judge_recording-in-Ok.field-0 c.in-Ok.ensures.level c.in-Ok.ensures.setup c.in-Ok.ensures.scripted c.in-Ok.ensures.history c.in-Ok.ensures.whole
    c.in_ok-judge_recording-in-Ok.ensures.exact c.in_ok-judge_recording-in-Ok.ensures.promised

pub returns-in-Err : goal.returns-in-Err
returns-in-Err g c = record {
  cell = tt;
  fault = (
    refl,
    c.level-level.ensures,
    (
      search rules,
      fault_is c.args.name _ _ _ c.args.script.now c.requires.script c.requires.setup (sym c.level-level.ensures) c.in-Err.fault c.in-Err.ensures.fault,
    ),
  );
}
