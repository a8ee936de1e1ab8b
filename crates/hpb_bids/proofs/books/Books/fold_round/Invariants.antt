use Rattle.std.proofs.Common.{◌≡◌, ◌++◌, map, take, drop}
use Rattle.hpb_bids.specs.Inside.{closed}
use Rattle.hpb_bids.proofs.Masks.{AreRaised}
use Rattle.hpb_bids.proofs.books.Books.fold_round.Given as goal

abbrev pub invariant-loop-place : goal.invariant-loop-place
invariant-loop-place l = record {
  rows : l.bids-items ≡ map closed (take l.place l.initial.bids-items) ++ drop l.place l.initial.bids-items;
  raised : AreRaised l.initial.bids-items l.place l.changed;
}
