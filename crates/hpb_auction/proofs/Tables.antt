-- Nodes, bidders and senders, by the tables.
use Rattle.std.proofs.Common.{◌≡◌, ℕ, ◌<◌, ◌≤◌, false, List, length, get_or, map, Option, Some, None, refl, ap, subst, ◌∙◌, arith}
use Rattle.std.specs.Prelude.{option_copied, slice_index_or}
use Rattle.std.specs.Borrow.{Bor}
use Rattle.std.specs.List.{range_with_len}
use Rattle.std.proofs.lemmas.List.{get_or_past}
use Rattle.std.proofs.lemmas.List.FromFn.{get_or-map-range_with_len, length-map-range_with_len}
use Rattle.hpb_rules.specs.Saved.{restored_last}
use Rattle.hpb_rules.proofs.Ranges.{any_default}
use Rattle.hpb_rules.specs.Tree.{places}
use Rattle.hpb_rules.specs.AuctionValue.{AuctionValue, BidderState}
use Rattle.hpb_rules.specs.Values.{node_at, no_bids, bidder_at, no_bidder}
use Rattle.hpb_bids.specs.View.{has_bid}
use Rattle.hpb_rules.specs.declared.saved.Accepted.{Accepted}
use Rattle.hpb_auction.specs.declared.sender.BidderRow.{BidderRow}
use Rattle.hpb_auction.specs.declared.auction.Auction.TheInside.{Inside}
use Rattle.hpb_auction.specs.Verdicts.{read_last, IsFoundIn}
use Rattle.hpb_auction.specs.Inside.{value_inside, booked, state_at, row_at, empty_row, IsNumbered}

-- the entry at a place of a table that is made place by place
pub entry_at : {X : Type 0} (f : ℕ → X) (n i : ℕ) (d : X) → i < n → get_or (map f (range_with_len 0 n)) i d ≡ f i
entry_at f n i d h = get_or-map-range_with_len f 0 n i i d h (omega arith)

module _ (a : Inside) where
  pub node_here : (n : ℕ) → n < length a.definition.nodes → node_at (value_inside a) n ≡ booked a.books n
  node_here n h = entry_at (booked a.books) (length a.definition.nodes) n no_bids h

  -- behind the definition's nodes there is no bid
  pub no_node_here : (n : ℕ) → length a.definition.nodes ≤ n → node_at (value_inside a) n ≡ no_bids
  no_node_here n h = get_or_past (map (booked a.books) (places a.definition.nodes)) n no_bids (omega (arith, length-map-range_with_len (booked a.books) 0 (length a.definition.nodes)))

  pub bidder_here : (b : ℕ) → b < length a.definition.bidders → bidder_at (value_inside a) b ≡ state_at a.definition a.books a.bidders.items b
  bidder_here b h = entry_at (state_at a.definition a.books a.bidders.items) (length a.definition.bidders) b no_bidder h

  pub flag_here : (b n : ℕ) → b < length a.definition.bidders → n < length a.definition.nodes → slice_index_or (bidder_at (value_inside a) b).bid_on n false ≡ has_bid a.books b n
  flag_here b n h k = ap (λ (state : BidderState). get_or state.bid_on n false) (bidder_here b h) ∙ entry_at (has_bid a.books b) (length a.definition.nodes) n false k

module _ (a : Inside) (value : AuctionValue) (seen : value_inside a ≡ value) where
  pub node_found : (n : ℕ) → n < length value.rules.nodes → node_at value n ≡ booked a.books n
  node_found n h = subst (λ (value : AuctionValue). n < length value.rules.nodes → node_at value n ≡ booked a.books n) seen (node_here a n) h

  pub bidder_found : (b : ℕ) → b < length value.rules.bidders → bidder_at value b ≡ state_at a.definition a.books a.bidders.items b
  bidder_found b h = subst (λ (value : AuctionValue). b < length value.rules.bidders → bidder_at value b ≡ state_at a.definition a.books a.bidders.items b) seen (bidder_here a b) h

-- the row that was read
pub row_found : (rows : List BidderRow) (i b : ℕ) (row : BidderRow) → row ≡ get_or rows i row → i ≡ b → b < length rows → row ≡ row_at rows b
row_found rows i b row found same h = found ∙ ap (λ k. get_or rows k row) same ∙ any_default rows b row empty_row h

-- the last command that was read is the one that is kept
pub last_seen : (read : Option (Bor Accepted)) (last : Option Accepted) → option_copied read ≡ last → read_last read ≡ restored_last last
last_seen None last e = ap restored_last e
last_seen (Some accepted) last e = ap restored_last e

-- the last command that was read is the sender's
pub found_seen : (read : Option (Bor Accepted)) (last : Option Accepted) (count : ℕ) → option_copied read ≡ last → IsNumbered count last → IsFoundIn (restored_last last) count read
found_seen read last count e h = subst (λ (last : Option Accepted). IsNumbered count last → IsFoundIn (restored_last last) count read) e (by read) h
  where
    by : (read : Option (Bor Accepted)) → IsNumbered count (option_copied read) → IsFoundIn (restored_last (option_copied read)) count read
    by None h = record { last = refl; number = omega arith }
    by (Some accepted) h = record { last = refl; number = h }
