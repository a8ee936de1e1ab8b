use Rattle.std.proofs.Common.{◌≡◌, ℕ, ◌<◌, get_or}
use Rattle.hpb_rules.specs.declared.saved.SavedNode.{SavedNode}
use Rattle.hpb_bids.specs.View.{offer_at}
use Rattle.hpb_auction.proofs.saving.save_nodes.Given as goal

abbrev pub invariant-loop-place : goal.invariant-loop-place
invariant-loop-place l = (n : ℕ) (d : SavedNode) → n < l.place → get_or l.nodes n d ≡ record { high = offer_at l.books.standing n; incoming = offer_at l.books.incoming n }
