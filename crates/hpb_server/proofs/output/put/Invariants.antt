use Rattle.std.proofs.Common.{◌≤◌, ◌-◌, take, length}
use Rattle.std.specs.Io.KnownBytes.{Appends}
use Rattle.hpb_server.proofs.output.put.Given as goal

-- the front that is written
abbrev pub invariant-parts : goal.invariant-parts
invariant-parts g l = (l.at ≤ length l.bytes) × Appends (g.W.Write.contents l.fn.writer) (g.W.Write.contents l.writer) (take l.at l.bytes)

abbrev pub decreases-parts : goal.decreases-parts
decreases-parts g l = length l.bytes - l.at
