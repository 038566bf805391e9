use Rattle.lab_explain.proofs.CutParts.{are_parts, alone_is}
use Rattle.lab_explain.proofs.laws.a_part_is_cut_between_sentences.Goals as goal

pub returns : goal.returns
returns c = record {
  whole = λ h report. are_parts h report;
  alone = λ h report p. alone_is h report p;
}
