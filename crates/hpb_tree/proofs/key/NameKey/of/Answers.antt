use Rattle.std.proofs.Common.{arith}
use Rattle.hpb_tree.proofs.Keys.{key_short, key_long}
use Rattle.hpb_tree.proofs.key.NameKey.of.Goals as goal

pub returns-then-len-le-WORD : goal.returns-then-len-le-WORD
returns-then-len-le-WORD c = rw c.number.ensures (key_short c.args.name.now (omega arith))

pub returns : goal.returns
returns c = let cut = c.split_at.ensures in rw (c.number-2.ensures, c.front_number.ensures) (key_long c.args.name.now _ _ cut.front cut.back)
