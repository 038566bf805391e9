use Rattle.lab_commands.proofs.OneTranscript.{one_transcript}
use Rattle.lab_commands.proofs.laws.serial_answer_unique.Goals as goal

pub returns : goal.returns
returns c = record {
  text = λ input one other first again a b. (one_transcript input one other first again a b).0;
  ending = λ input one other first again a b. (one_transcript input one other first again a b).1;
}
