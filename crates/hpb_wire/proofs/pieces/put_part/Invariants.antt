use Rattle.std.proofs.Common.{◌≡◌, ◌+◌, ◌++◌, take, drop, length}
use Rattle.hpb_wire.proofs.pieces.put_part.Given as goal

-- the bytes read so far
abbrev pub invariant-loop-i : goal.invariant-loop-i
invariant-loop-i g l = (length l.part ≡ g.row.N) × (take l.i l.part ≡ take l.i (drop l.from l.text))

-- the bytes written so far
abbrev pub invariant-loop-i-2 : goal.invariant-loop-i-2
invariant-loop-i-2 g l = take (l.at + l.i) l.bytes ≡ take l.at l.fn.bytes ++ take l.i l.part
