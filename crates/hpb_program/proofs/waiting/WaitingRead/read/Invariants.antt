use Rattle.std.specs.Io.KnownBytes.{Keeps}
use Rattle.hpb_program.proofs.waiting.WaitingRead.read.Given as goal

-- nothing was taken
abbrev pub invariant-tries : goal.invariant-tries
invariant-tries g l = Keeps (g.R.Read.remaining l.initial.self.stream) (g.R.Read.remaining l.self.stream)
