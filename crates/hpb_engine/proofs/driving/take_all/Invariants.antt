use Rattle.std.proofs.Common.{◌≡◌, ◌+◌, ◌*◌, ◌-◌, ◌≤◌, None, take, length}
use Rattle.std.specs.Prelude.{vec_len, vec_capacity}
use Rattle.hpb_rules.specs.Machine.{Machine}
use Rattle.hpb_engine.specs.Engines.{Keeps, Ran, pause_of}
use Rattle.hpb_engine.proofs.driving.take_all.Given as goal

abbrev pub invariant-loop-event : goal.invariant-loop-event
invariant-loop-event g l =
    let d = g.D.Disk in
    let start = l.fn.engine in
    (vec_len l.answers + 64 * (length l.fn.events - l.event-index) ≤ vec_capacity l.answers)
    × ((d.device l.engine.disk).failures ≡ (d.device start.disk).failures)
    × ((machine : Machine) → Keeps start machine → Ran (pause_of start machine) (take l.event-index l.fn.events) l.engine l.answers.items None)
