use Rattle.std.proofs.Common.{ℕ, ◌≡◌, [], ◌∷◌, List, sym, ap, ◌∙◌}
use Rattle.std.proofs.lemmas.List.{append-nil}
use Rattle.hpb_disk.specs.declared.done.Done.TheVariants.{Read}
use Rattle.hpb_disk.specs.Calls.{Call, calls_of, base_of, pending_of}
use Rattle.hpb_disk.specs.Events.{Event, event_of}
use Rattle.hpb_disk.proofs.Pending.{pending_next}
use Rattle.hpb_disk.proofs.Steps.{noted}
use Rattle.hpb_disk.proofs.memory.MemoryDiskDisk.read_into.Goals as goal

pub invariant_of-self-clause-pending : goal.invariant_of-self-clause-pending
invariant_of-self-clause-pending c =
    let old = c.args.self.now in let pending = pending_of (calls_of old.trace.events) in
    pending_next old.done.items c.keep.new.done.items Read old.covered pending old.inside old.pending c.in-Ok.ensures.ok
    ∙ append-nil pending
    ∙ ap (λ (events : List Event). pending_of (calls_of events)) (sym c.read.ensures.1)

pub invariant_of-self-clause-based : goal.invariant_of-self-clause-based
invariant_of-self-clause-based c =
    let old = c.args.self.now in
    noted old.trace.first c.read.new.self.first old.trace.events c.read.new.self.events (event_of (0 ∷ 0 ∷ []) [])
    (λ (first : List ℕ) (calls : List Call). old.base.items ≡ base_of first calls) c.read.ensures old.based
