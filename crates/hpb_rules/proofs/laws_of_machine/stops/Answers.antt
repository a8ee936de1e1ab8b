use Rattle.hpb_rules.proofs.MachineStops
use Rattle.hpb_rules.proofs.laws_of_machine.stops.Goals as goal

pub returns : goal.returns
returns c = MachineStops.stops
