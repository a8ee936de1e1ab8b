use Rattle.hpb_rules.proofs.Machines
use Rattle.hpb_rules.proofs.laws_of_machine.run_is_moves.Goals as goal

pub returns : goal.returns
returns c = Machines.run_is_moves
