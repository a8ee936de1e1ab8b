use Rattle.std.proofs.Common.{rules}
use Rattle.hpb_engine.specs.Steps.{step_of}
use Rattle.hpb_engine.specs.Engines.{running_of}
use Rattle.hpb_engine.proofs.DeviceCalls.{device_of}
use Rattle.hpb_engine.proofs.Machines.{kept_turn, since_turn}
use Rattle.hpb_engine.proofs.engine.Engine.make_turn.Goals as goal

pub returns-clause-effect : goal.returns-clause-effect
returns-clause-effect g c =
    let new = running_of c.turn.new.self in
    let step = step_of c.turn.result c.turn.new.leaving in
    let called = c.turn.ensures.called in
    record {
      keeps = λ machine keeps. kept_turn new keeps step c.turn.ensures.leads c.laws_below.ensures (called.keeps machine.acknowledged keeps.inside);
      answers = λ machine keeps. search rules;
      since = λ machine keeps. since_turn new keeps step c.turn.ensures.leads (called.since machine.acknowledged keeps.inside);
    }

pub returns-clause-device : goal.returns-clause-device
returns-clause-device g c = device_of c.turn.result c.turn.ensures.called.device
