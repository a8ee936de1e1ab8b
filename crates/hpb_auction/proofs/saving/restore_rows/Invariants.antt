use Rattle.std.proofs.Common.{◌≡◌, map, take}
use Rattle.hpb_auction.specs.Saving.{row_in}
use Rattle.hpb_auction.proofs.saving.restore_rows.Given as goal

abbrev pub invariant-loop-place : goal.invariant-loop-place
invariant-loop-place l = take l.place l.rows ≡ take l.place (map row_in l.saved)
