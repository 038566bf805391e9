use Rattle.lab_script.proofs.{Common.{arith}, LongTexts.{script_short, first_spell, fault_spelled}}
use Rattle.lab_script.proofs.laws.first_bytes_tell_a_script.Goals as goal

pub returns : goal.returns
returns c = record {
  short = λ text script spells. let size = script_short text script spells in omega arith;
  spelled = first_spell;
  fault = fault_spelled;
}
