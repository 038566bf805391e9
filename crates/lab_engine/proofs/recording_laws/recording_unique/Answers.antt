use Rattle.lab_engine.proofs.OneRecording.{one_recording}
use Rattle.lab_engine.proofs.recording_laws.recording_unique.Goals as goal

pub returns : goal.returns
returns c = λ setup past h other r s. one_recording setup past h other r s
