use Rattle.std.specs.Io.KnownBytes.{Keeps}
use Rattle.hpb_program.proofs.waiting.WaitingWrite.write.Given as goal

-- nothing was written
abbrev pub invariant-tries : goal.invariant-tries
invariant-tries g l = Keeps (g.W.Write.contents l.initial.self.stream) (g.W.Write.contents l.self.stream)
