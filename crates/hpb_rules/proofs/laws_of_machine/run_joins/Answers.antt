use Rattle.hpb_rules.proofs.Machines
use Rattle.hpb_rules.proofs.laws_of_machine.run_joins.Goals as goal

pub returns : goal.returns
returns c = Machines.run_joins
