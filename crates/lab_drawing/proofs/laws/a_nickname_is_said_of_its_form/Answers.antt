use Rattle.lab_drawing.proofs.NicknameForms.{is_form, is_said}
use Rattle.lab_drawing.proofs.laws.a_nickname_is_said_of_its_form.Goals as goal

pub returns : goal.returns
returns c = record {
  said = λ h walk nickname there. is_form h walk nickname there;
  due = λ h walk nickname form. is_said h walk nickname form;
}
