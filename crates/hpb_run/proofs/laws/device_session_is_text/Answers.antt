use Rattle.hpb_run.proofs.DeviceSessions
use Rattle.hpb_run.proofs.laws.device_session_is_text.Goals as goal

pub returns : goal.returns
returns c = DeviceSessions.device_session_is_text
