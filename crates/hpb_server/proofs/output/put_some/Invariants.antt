use Rattle.std.specs.Io.KnownBytes.{Keeps}
use Rattle.hpb_server.proofs.output.put_some.Given as goal

-- nothing was written
abbrev pub invariant-tries : goal.invariant-tries
invariant-tries g l = Keeps (g.W.Write.contents l.initial.writer) (g.W.Write.contents l.writer)
