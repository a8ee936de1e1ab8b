use Rattle.hpb_server.proofs.Scripts
use Rattle.hpb_server.proofs.laws.input_is_text.Goals as goal

pub returns : goal.returns
returns c = Scripts.input_is_text
