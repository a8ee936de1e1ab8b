-- The entry of a node in a state.
use Rattle.std.specs.Prelude.{◌≡◌, ℕ, ◌<◌, ◌^◌, List, [], ◌∷◌, Option, Some, None, IfSome, length, refl}
use Rattle.std.specs.List.{concat}
use Rattle.hpb_rules.specs.declared.command.Offer.{Offer}
use Rattle.hpb_rules.specs.declared.limits.TheConstants.{MOST_BIDDERS}
use Rattle.hpb_rules.specs.declared.saved.SavedNode.{SavedNode}
use Rattle.hpb_codec.specs.Numbers.{number, zeros}
use Rattle.hpb_codec.specs.Sizes.{behind}

-- The amount and the bidder of a bid, both 0 if there is none.
abbrev pub amount_or_zero : Option Offer → ℕ
amount_or_zero None = 0
amount_or_zero (Some offer) = offer.amount

abbrev pub bidder_or_zero : Option Offer → ℕ
bidder_or_zero None = 0
bidder_or_zero (Some offer) = offer.bidder

-- The fields of an entry, in their order: amount of the high bid, of the incoming bid, bidder of the high bid, of the incoming bid, zero.
abbrev pub node_entry : SavedNode → List ℕ
node_entry node = concat (
    number 8 (amount_or_zero node.high)
    ∷ number 8 (amount_or_zero node.incoming)
    ∷ number 1 (bidder_or_zero node.high)
    ∷ number 1 (bidder_or_zero node.incoming)
    ∷ zeros 6
    ∷ [])

-- A bid, or a node, whose fields fit their bytes, whatever the definition: no bid has the amount 0.
abbrev pub HasBid : Option Offer → Type 0
HasBid bid = IfSome bid (λ offer. (0 < offer.amount) × (offer.amount < 2 ^ 64) × (offer.bidder < MOST_BIDDERS))

abbrev pub HasNodeEntry : SavedNode → Type 0
HasNodeEntry node = HasBid node.high × HasBid node.incoming

-- The condition for this besides the ranges of the types: no bid has the amount 0.
abbrev pub HasAmounts : SavedNode → Type 0
HasAmounts node = IfSome node.high (λ offer. 0 < offer.amount) × IfSome node.incoming (λ offer. 0 < offer.amount)

-- Bytes are the entry of a node.
abbrev pub SpellsNode : List ℕ → SavedNode → Type 0
SpellsNode bytes node = HasNodeEntry node × (bytes ≡ node_entry node)

-- An entry has 24 bytes.
pub node_sized : (node : SavedNode) → length (node_entry node) ≡ 24
node_sized node = behind 8 _ _ (behind 8 _ _ (behind 1 _ _ (behind 1 _ _ (behind 6 _ _ refl))))
