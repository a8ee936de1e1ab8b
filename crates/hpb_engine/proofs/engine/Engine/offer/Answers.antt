use Rattle.hpb_engine.specs.Engines.{running_of}
use Rattle.hpb_engine.proofs.Machines.{no_effect}
use Rattle.hpb_engine.proofs.engine.Engine.offer.Goals as goal

pub returns-in-Some-Failed-clause-effect : goal.returns-in-Some-Failed-clause-effect
returns-in-Some-Failed-clause-effect g c = no_effect (running_of c.args.self.now) c.args.leaving.now c.requires.none

pub returns-in-Some-Busy-clause-effect : goal.returns-in-Some-Busy-clause-effect
returns-in-Some-Busy-clause-effect g c = no_effect (running_of c.args.self.now) c.args.leaving.now c.requires.none

pub returns-in-Some-Full-clause-effect : goal.returns-in-Some-Full-clause-effect
returns-in-Some-Full-clause-effect g c = no_effect (running_of c.args.self.now) c.args.leaving.now c.requires.none
