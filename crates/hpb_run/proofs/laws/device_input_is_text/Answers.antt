use Rattle.hpb_run.proofs.DeviceTexts
use Rattle.hpb_run.proofs.laws.device_input_is_text.Goals as goal

pub returns : goal.returns
returns c = DeviceTexts.device_input_is_text
