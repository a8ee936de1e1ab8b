-- The refusal by which a failed serving is reported.
-- Source: this project's own.
use Rattle.hpb_rules.specs.declared.refusal.Refusal.{Refusal}
use Rattle.hpb_rules.specs.declared.refusal.Refusal.TheVariants as refusals
use Rattle.hpb_house.specs.Told as starts
use Rattle.hpb_serve.specs.declared.fault.ServeFault.{ServeFault}
use Rattle.hpb_serve.specs.declared.fault.ServeFault.TheVariants.{Memory, Writer, Start, Order, Counts}

-- The refusal of each fault.
abbrev pub refusal_of : {D : Type 0} → ServeFault D → Refusal
refusal_of Memory = refusals.Memory
refusal_of Writer = refusals.Stream
refusal_of (Start cause) = starts.refusal_of cause
refusal_of (Order client) = refusals.Order
refusal_of (Counts differing) = refusals.Counts
