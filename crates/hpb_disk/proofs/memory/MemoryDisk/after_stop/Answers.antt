use Rattle.std.proofs.Common.{◌≡◌, sym, ◌∙◌, subst, rules}
use Rattle.std.proofs.lemmas.Grind.{common_steps}
use Rattle.hpb_disk.specs.Calls.{calls_of, left_of, base_of, pending_of}
use Rattle.hpb_disk.specs.Fates.{stopped}
use Rattle.hpb_disk.proofs.Stops.{stopped_is_left}
use Rattle.hpb_disk.proofs.memory.MemoryDisk.after_stop.Goals as goal

pub returns-clause-may_stay : goal.returns-clause-may_stay
returns-clause-may_stay c =
    let trace = c.args.self.now.trace in let calls = calls_of trace.events in
    let is : c.loop-done.image.items ≡ stopped (pending_of calls) c.args.pick.now (base_of trace.first calls) = search (rules, common_steps) in
    subst (left_of trace.first calls) (sym (c.in_ok-stopped.ensures.seen ∙ is)) (stopped_is_left trace.first calls c.args.pick.now)
