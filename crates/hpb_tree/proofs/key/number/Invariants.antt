use Rattle.std.proofs.Common.{◌≡◌, ◌^◌, ◌<◌, take}
use Rattle.hpb_tree.specs.Keys.{number}
use Rattle.hpb_tree.proofs.key.number.Given as goal

abbrev pub invariant-loop-byte : goal.invariant-loop-byte
invariant-loop-byte l = (l.number ≡ number (take l.byte-index l.bytes)) × (l.number < 256 ^ l.byte-index)
