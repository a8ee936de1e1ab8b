use Rattle.hpb_slots.specs.Slots.{gate_at}
use Rattle.hpb_slots.proofs.laws.open_or_closed.Goals as goal

pub returns : goal.returns
returns c slot image = c.open_or_closed.ensures (gate_at slot) image
