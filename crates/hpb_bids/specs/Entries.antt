-- The conditions under which each entry of a saved auction may be restored.
use Rattle.std.specs.Prelude.{◌≡◌, ℕ, ◌+◌, ◌<◌, ◌≤◌, true, List, length, IfSome, IsSome, slice_index_or}
use Rattle.hpb_rules.specs.declared.limits.TheConstants.{MOST_COMMANDS}
use Rattle.hpb_rules.specs.declared.saved.Saved.{Saved}
use Rattle.hpb_rules.specs.declared.saved.SavedBidder.{SavedBidder}
use Rattle.hpb_rules.specs.declared.saved.SavedNode.{SavedNode}
use Rattle.hpb_rules.specs.Definitions.{IsWithin}
use Rattle.hpb_rules.specs.History.{bidder, bidder_units}
use Rattle.hpb_rules.specs.ProperValues.{IsOfferOn}
use Rattle.hpb_rules.specs.Saved.{empty_node, empty_bidder, has_bit, IsSavedLast}
use Rattle.hpb_rules.specs.Tree.{Rules}

-- The stage is one of the definition's, the round is from 1 to the count plus one, and the count is at most 1,000,000.
pub record AreNumbers (rules : Rules) (saved : Saved) : Type 0 where
  pub stage : IsWithin 1 (length rules.stages) saved.stage
  pub round : IsWithin 1 (saved.count + 1) saved.round
  pub count : saved.count ≤ MOST_COMMANDS

-- The entry of a node has bids that meet the rules.
abbrev pub IsNodeEntry : Rules → ℕ → SavedNode → Type 0
IsNodeEntry rules node entry = IfSome entry.high (IsOfferOn rules node) × IfSome entry.incoming (IsOfferOn rules node)

-- Each bit of a number names a node that has an incoming bid.
abbrev pub AreBits : List SavedNode → ℕ → Type 0
AreBits nodes mask = (node : ℕ) → has_bit mask node ≡ true → IsSome (slice_index_or nodes node empty_node).incoming

-- The entry of a bidder of the definition is in order.
pub record IsOwnEntry (rules : Rules) (count : ℕ) (nodes : List SavedNode) (from : ℕ) (entry : SavedBidder) : Type 0 where
  pub eligibility : entry.eligibility ≤ bidder_units rules from
  pub last : IfSome entry.last (IsSavedLast rules count (bidder from))
  pub bits : AreBits nodes entry.bid_on
  pub waivers : entry.waivers ≤ rules.waivers
  pub fewer : entry.has_waived ≡ true → entry.waivers < rules.waivers

-- The entry at a bidder's place is in order: behind the definition's bidders it is empty.
abbrev pub IsBidderEntry : Rules → ℕ → List SavedNode → ℕ → SavedBidder → Type 0
IsBidderEntry rules count nodes from entry =
    (length rules.bidders ≤ from → entry ≡ empty_bidder) × (from < length rules.bidders → IsOwnEntry rules count nodes from entry)
