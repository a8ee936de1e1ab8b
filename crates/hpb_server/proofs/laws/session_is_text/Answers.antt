use Rattle.hpb_server.proofs.Scripts
use Rattle.hpb_server.proofs.laws.session_is_text.Goals as goal

pub returns : goal.returns
returns c = Scripts.session_is_text
