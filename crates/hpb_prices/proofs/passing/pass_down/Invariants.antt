use Rattle.std.proofs.Common.{◌≡◌, ℕ, ◌<◌, length, slice_index}
use Rattle.hpb_rules.specs.declared.limits.TheConstants.{MOST_NODES}
use Rattle.hpb_rules.specs.Prices.{price}
use Rattle.hpb_bids.specs.View.{bid_of}
use Rattle.hpb_prices.specs.Along.{AreMinima}
use Rattle.hpb_prices.specs.Shares.{IsPassedDown}
use Rattle.hpb_prices.proofs.passing.pass_down.Given as goal

abbrev pub invariant-loop-node : goal.invariant-loop-node
invariant-loop-node l = record {
  shares : IsPassedDown l.tree.nodes (bid_of l.books) l.node-index l.shares;
  room : length l.prices ≡ MOST_NODES;
  prices : (n : ℕ) → n < l.node-index → slice_index l.prices n ≡ price l.tree.nodes (bid_of l.books) n;
  count : length l.minima ≡ MOST_NODES;
  minima : AreMinima l.tree l.prices l.minima;
}
