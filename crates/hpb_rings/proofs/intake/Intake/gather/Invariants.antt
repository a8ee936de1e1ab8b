use Rattle.std.proofs.Common.{◌≡◌, ◌<◌, ◌++◌, ℕ, All, vec_len}
use Rattle.hpb_rings.specs.Gathering.{gathered, at_seat, of_seat, halts}
use Rattle.hpb_rings.proofs.intake.Intake.gather.Given as goal

abbrev pub invariant-loop-i : goal.invariant-loop-i
invariant-loop-i g l = ((s : ℕ) → at_seat (gathered l.self.rings.items) s ≡ at_seat (gathered l.fn.self.rings.items) s ++ of_seat s l.letters) × All (λ x. x.seat < vec_len l.fn.self.rings) l.letters × (vec_len l.self.rings ≡ vec_len l.fn.self.rings) × (halts l.self.rings.items ≡ halts l.fn.self.rings.items)
