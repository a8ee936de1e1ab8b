use Rattle.std.proofs.Common.{◌≡◌, ℕ, [], ◌∷◌, ◌++◌, List, sym, ap, ◌∙◌}
use Rattle.hpb_disk.specs.declared.done.Done.TheVariants.{Write}
use Rattle.hpb_disk.specs.Calls.{Call, calls_of, base_of, pending_of}
use Rattle.hpb_disk.specs.Events.{Event, event_of}
use Rattle.hpb_disk.proofs.Pending.{pending_next}
use Rattle.hpb_disk.proofs.Steps.{noted}
use Rattle.hpb_disk.proofs.memory.MemoryDiskDisk.write_at.Goals as goal

pub invariant_of-self-clause-pending : goal.invariant_of-self-clause-pending
invariant_of-self-clause-pending c =
    let old = c.args.self.now in let pending = pending_of (calls_of old.trace.events) in let kept = c.in-Ok.ensures.ok in
    pending_next old.done.items c.keep_write.new.done.items (Write c.args.at kept.0) old.covered pending old.inside old.pending kept.2
    ∙ ap (λ (bytes : List ℕ). pending ++ (c.args.at, bytes) ∷ []) kept.1
    ∙ ap (λ (events : List Event). pending_of (calls_of events)) (sym c.wrote.ensures.1)

pub invariant_of-self-clause-based : goal.invariant_of-self-clause-based
invariant_of-self-clause-based c =
    let old = c.args.self.now in
    noted old.trace.first c.wrote.new.self.first old.trace.events c.wrote.new.self.events (event_of (1 ∷ c.args.at ∷ []) c.args.bytes.now)
    (λ (first : List ℕ) (calls : List Call). old.base.items ≡ base_of first calls) c.wrote.ensures old.based
