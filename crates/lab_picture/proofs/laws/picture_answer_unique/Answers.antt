use Rattle.lab_streams.{proofs.ToldFiles.{one_told}, specs.declared.reporting.Format.TheVariants.{Lines}}
use Rattle.lab_picture.{specs.Picture.{Pictures}, proofs.OnePicture.{one_picture}}
use Rattle.lab_picture.proofs.laws.picture_answer_unique.Goals as goal

pub returns : goal.returns
returns c = record {
  text = λ input one other asked first again a b. (one_told Lines (Pictures asked) (one_picture asked) input one other first again a b).0;
  ending = λ input one other asked first again a b. (one_told Lines (Pictures asked) (one_picture asked) input one other first again a b).1;
}
