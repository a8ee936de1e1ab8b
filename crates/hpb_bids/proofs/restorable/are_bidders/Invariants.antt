use Rattle.std.proofs.Common.{ℕ, ◌<◌, get_or}
use Rattle.hpb_rules.specs.declared.saved.SavedBidder.{SavedBidder}
use Rattle.hpb_bids.specs.Entries.{IsBidderEntry}
use Rattle.hpb_bids.proofs.restorable.are_bidders.Given as goal

abbrev pub invariant-loop-place : goal.invariant-loop-place
invariant-loop-place l = (b : ℕ) (d : SavedBidder) → b < l.place → IsBidderEntry l.definition l.count l.nodes b (get_or l.bidders b d)
