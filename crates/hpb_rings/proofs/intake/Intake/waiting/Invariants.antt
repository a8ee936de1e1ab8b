use Rattle.std.proofs.Common.{◌≡◌, vec_len}
use Rattle.hpb_rings.specs.Gathering.{gathered, halts}
use Rattle.hpb_rings.proofs.intake.Intake.waiting.Given as goal

abbrev pub invariant-loop-i : goal.invariant-loop-i
invariant-loop-i g l = (gathered l.self.rings.items ≡ gathered l.fn.self.rings.items) × (halts l.self.rings.items ≡ halts l.fn.self.rings.items) × (vec_len l.self.rings ≡ vec_len l.fn.self.rings)
