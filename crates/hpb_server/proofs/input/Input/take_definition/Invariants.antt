use Rattle.hpb_server.proofs.Definitions.{Taken}
use Rattle.hpb_server.proofs.input.Input.take_definition.Given as goal

-- the bytes of the definition so far
abbrev pub invariant-chunks : goal.invariant-chunks
invariant-chunks g l = Taken (g.R.Read.remaining l.fn.reader) (g.R.Read.remaining l.reader) l.fn.self.budget l.self l.bytes.items

abbrev pub decreases-chunks : goal.decreases-chunks
decreases-chunks g l = l.self.budget
