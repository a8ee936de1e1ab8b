use Rattle.std.proofs.Common.{◌≡◌, take}
use Rattle.hpb_codec.proofs.head.widened.Given as goal

abbrev pub invariant-loop-byte : goal.invariant-loop-byte
invariant-loop-byte l = l.numbers.items ≡ take l.byte-index l.bytes
