use Rattle.std.proofs.Common.{◌≡◌, map, take, drop, vec_len}
use Rattle.hpb_rings.specs.Gathering.{gathered, halts, told_of}
use Rattle.hpb_rings.proofs.intake.Intake.halt.Given as goal

abbrev pub invariant-loop-i : goal.invariant-loop-i
invariant-loop-i g l = (halts (take l.i l.self.rings.items) ≡ map (told_of l.halt) (take l.i l.fn.self.rings.items)) × (drop l.i l.self.rings.items ≡ drop l.i l.fn.self.rings.items) × (gathered l.self.rings.items ≡ gathered l.fn.self.rings.items) × (vec_len l.self.rings ≡ vec_len l.fn.self.rings)
