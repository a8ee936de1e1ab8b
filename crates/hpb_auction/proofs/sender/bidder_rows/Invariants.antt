use Rattle.std.proofs.Common.{◌≡◌, map}
use Rattle.std.specs.List.{range_with_len}
use Rattle.hpb_auction.specs.Rows.{first_row}
use Rattle.hpb_auction.proofs.sender.bidder_rows.Given as goal

abbrev pub invariant-loop-place : goal.invariant-loop-place
invariant-loop-place l = l.rows.items ≡ map (first_row l.definition) (range_with_len 0 l.place)
