use Rattle.hpb_rules.proofs.Machines
use Rattle.hpb_rules.proofs.laws_of_machine.machine_keeps.Goals as goal

pub returns : goal.returns
returns c = Machines.machine_keeps
