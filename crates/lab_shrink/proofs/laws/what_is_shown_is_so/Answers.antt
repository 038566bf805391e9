use Rattle.lab_shrink.proofs.GoalsShown.{no_order_is_so, fault_is_so, present_is_so, no_timestamps_is_so}
use Rattle.lab_shrink.proofs.laws.what_is_shown_is_so.Goals as goal

pub returns : goal.returns
returns c = record {
  no_order = λ h shows. no_order_is_so h shows;
  fault = λ h kind shows. fault_is_so h kind shows;
  present = λ h p in_sound shows. present_is_so h p in_sound shows;
  no_timestamps = λ h shows. no_timestamps_is_so h shows;
}
