-- How many values of nodes a command forms.
use Rattle.std.specs.Prelude.{ℕ, Bool, ◌&&◌, nat_lt, if◌then◌else◌}
use Rattle.std.specs.List.{list_any, count_by}
use Rattle.hpb_rules.specs.declared.command.Command.{Command}
use Rattle.hpb_rules.specs.declared.command.Command.TheVariants.{Bid, Close, Stage, Waive}
use Rattle.hpb_rules.specs.Tree.{places, at_or_under}
use Rattle.hpb_rules.specs.History.{amount_of}
use Rattle.hpb_rules.specs.Answer.{is_reply_new}
use Rattle.hpb_rules.specs.AuctionValue.{AuctionValue}
use Rattle.hpb_rules.specs.Values.{node_at, reply_in}

-- Whether a close changes a node's high bid: the greatest bid of the open round exceeds it.
abbrev pub is_raised : AuctionValue → ℕ → Bool
is_raised value node = nat_lt (amount_of (node_at value node).high) (amount_of (node_at value node).incoming)

-- Whether a node is at or above some node whose high bid a close changes.
abbrev pub is_formed : AuctionValue → ℕ → Bool
is_formed value node = list_any (λ other. is_raised value other && at_or_under value.rules.nodes node other) (places value.rules.nodes)

-- A close forms the values of the nodes at or above those whose high bids it changes, each once, and no others.
abbrev pub formed_at_close : AuctionValue → ℕ
formed_at_close value = count_by (is_formed value) (places value.rules.nodes)

-- How many values a newly accepted command forms: only a close forms any.
abbrev pub formed_by : AuctionValue → Command → ℕ
formed_by value (Bid from ticket on amount) = 0
formed_by value (Close ticket) = formed_at_close value
formed_by value (Stage ticket) = 0
formed_by value (Waive from ticket) = 0

-- How many values a command forms: a refusal and a repeat form none.
abbrev pub formed_in : AuctionValue → Command → ℕ
formed_in value command = if is_reply_new value.count (reply_in value command) then formed_by value command else 0
