-- The values of auctions are proper.
use Rattle.std.proofs.Common.{◌≡◌, ℕ, suc, ◌+◌, true, get_or, Option, Some, None, length, sym, ap, ◌∙◌, ◌<◌, arith, subst}
use Rattle.std.specs.Prelude.{IfSome, option_copied}
use Rattle.std.specs.Borrow.{Bor}
use Rattle.std.proofs.lemmas.Bool.{eq-eqb}
use Rattle.hpb_rules.specs.declared.command.Command.{Command}
use Rattle.hpb_rules.specs.declared.command.Command.TheVariants.{Stage}
use Rattle.hpb_rules.specs.declared.saved.Accepted.{Accepted}
use Rattle.hpb_rules.specs.History.{Sender, bidder, ticket_of}
use Rattle.hpb_rules.specs.Saved.{restored_last}
use Rattle.hpb_rules.specs.Tree.{Rules}
use Rattle.hpb_auction.specs.Inside.{value_inside, row_at, IsNumbered, IsKept}
use Rattle.hpb_auction.specs.Verdicts.{IsFoundIn}
use Rattle.hpb_auction.specs.declared.sender.BidderRow.{BidderRow}
use Rattle.hpb_auction.specs.declared.auction.Auction.TheInside.{Inside}
use Rattle.hpb_auction.proofs.Tables.{bidder_here, row_found, found_seen}
use Rattle.hpb_rules.specs.declared.reply.Reply.TheVariants as replies
use Rattle.hpb_rules.specs.Answer.{is_reply_new}
use Rattle.hpb_rules.specs.AuctionValue.{AuctionValue, BidderState}
use Rattle.hpb_rules.specs.Drafts.{draft_refusal}
use Rattle.hpb_rules.specs.ProperValues.{IsLastOf, IsProper}
use Rattle.hpb_rules.specs.Values.{bidder_at, reply_in, changed}
use Rattle.hpb_rules.proofs.ProperValues.{changed_proper}

-- a reply with the next number is new
pub is_new : (value : AuctionValue) (command : Command) (number : ℕ) → reply_in value command ≡ replies.Ok number → number ≡ value.count + 1 → is_reply_new value.count (reply_in value command) ≡ true
is_new value command number reply next = ap (is_reply_new value.count) reply ∙ eq-eqb number (suc value.count) (next ∙ omega arith)

-- a command that is taken in leaves a proper value
pub taken_proper : (value : AuctionValue) (command : Command) (number : ℕ) → draft_refusal value.rules ≡ None → IsProper value → reply_in value command ≡ replies.Ok number → number ≡ value.count + 1 → IsProper (changed value command)
taken_proper value command number accepted proper reply next = changed_proper value command accepted proper (is_new value command number reply next)

-- a sender's last command in a proper value has a number up to the count
pub numbered : (rules : Rules) (count : ℕ) (sender : Sender) (last : Option Accepted) → IfSome (restored_last last) (λ last. IsLastOf rules count sender last.0 last.1) → IsNumbered count last
numbered rules count sender None is = tt
numbered rules count sender (Some accepted) is = is.placed.1

-- the value after a stage command
pub stage_taken : (value : AuctionValue) (accepted : Accepted) → accepted.command ≡ Stage (ticket_of accepted.command) → accepted.number ≡ value.count + 1
    → record value { auctioneer = restored_last (Some accepted); count = accepted.number; stage = value.stage + 1 } ≡ changed value accepted.command
stage_taken value accepted command next = by command (next ∙ omega arith) (omega arith) ∙ ap (changed value) (sym command)
  where
    by : {asked asked' : Command} {number number' stage stage' : ℕ} → asked ≡ asked' → number ≡ number' → stage ≡ stage'
        → record value { auctioneer = Some (asked, number); count = number; stage = stage } ≡ record value { auctioneer = Some (asked', number'); count = number'; stage = stage' }
    by e f g = cc

pub kept_number : (a : Inside) → IsProper (value_inside a) → (from : ℕ) → from < length a.definition.bidders → IsNumbered a.count (row_at a.bidders.items from).last
kept_number a proper from less = numbered a.definition a.count (bidder from) (row_at a.bidders.items from).last
    (subst (λ (last : Option (Command × ℕ)). IfSome last (λ last. IsLastOf a.definition a.count (bidder from) last.0 last.1)) (ap (λ (state : BidderState). state.last) (bidder_here a from less)) (proper.last (bidder from)))

-- the last command read in the row at a bidder's place is the bidder's
pub bidder_last : (a : Inside) → IsKept a → (q : AuctionValue) → value_inside a ≡ q → (place from : ℕ) (row : BidderRow) (read : Option (Bor Accepted))
    → row ≡ get_or a.bidders.items place row → place ≡ from → from < length a.bidders.items → option_copied read ≡ row.last → IsFoundIn (bidder_at q from).last q.count read
bidder_last a kept q seen place from row read at same within copied =
    let less : from < length a.definition.bidders = omega (arith, within, kept.rows) in
    let found : IsFoundIn (restored_last (row_at a.bidders.items from).last) a.count read
    = found_seen read (row_at a.bidders.items from).last a.count (copied ∙ ap (λ (row : BidderRow). row.last) (row_found a.bidders.items place from row at same within)) (kept_number a kept.proper from less) in
    subst (λ (value : AuctionValue). IsFoundIn (bidder_at value from).last value.count read) seen
    (subst (λ (last : Option (Command × ℕ)). IsFoundIn last a.count read) (sym (ap (λ (state : BidderState). state.last) (bidder_here a from less))) found)
