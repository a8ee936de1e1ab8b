use Rattle.std.proofs.Common.{◌≡◌}
use Rattle.rtrb.specs.Ring.{received}
use Rattle.hpb_rings.specs.Slips.{commands}
use Rattle.hpb_rings.specs.Gathering.{Drained}
use Rattle.hpb_rings.proofs.intake.drain.Given as goal

abbrev pub invariant-loop : goal.invariant-loop
invariant-loop g l = Drained l.seat (commands (received l.fn.ring.letters)) (commands (received l.ring.letters)) l.fn.letters l.letters × (l.ring.halts ≡ l.fn.ring.halts) × (l.ring.is_told ≡ l.fn.ring.is_told)
