use Rattle.hpb_rules.proofs.Machines
use Rattle.hpb_rules.proofs.laws_of_machine.rest_is_sound.Goals as goal

pub returns : goal.returns
returns c = Machines.rest_is_sound
