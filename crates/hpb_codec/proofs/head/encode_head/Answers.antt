use Rattle.std.proofs.lemmas.List.{append-nil}
use Rattle.hpb_codec.specs.Heads.{head_of}
use Rattle.hpb_codec.proofs.head.encode_head.Goals as goal

pub returns : goal.returns
unfolding head_of
returns c = rw (c.put_head.ensures, c.put_nodes.ensures, c.put_bidders.ensures) (simp append-nil)
