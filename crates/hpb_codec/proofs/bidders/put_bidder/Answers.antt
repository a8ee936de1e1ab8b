use Rattle.std.proofs.Common.{append_assoc}
use Rattle.std.proofs.lemmas.List.{append-nil}
use Rattle.hpb_codec.specs.BidderPages.{entry_of}
use Rattle.hpb_codec.proofs.bidders.put_bidder.Goals as goal

pub returns-clause-written : goal.returns-clause-written
unfolding entry_of
returns-clause-written c = rw (c.put_zeros.ensures.written, c.put_u32-at.ensures.written, c.put_name-at.ensures.written, c.bidder_name.ensures.value, c.bidder_units.ensures.value) (simp (append_assoc, append-nil))
