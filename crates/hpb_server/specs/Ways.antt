-- The ways of a desk, as one value.
use Rattle.std.specs.Prelude.{◌≡◌, ◌<◌, ◌≤◌, ℕ, Bool, List, Option}
use Rattle.hpb_rules.specs.declared.command.Command.{Command}
use Rattle.hpb_rules.specs.declared.limits.TheConstants.{MOST_LETTERS}
use Rattle.hpb_rules.specs.declared.reply.Reply.{Reply}
use Rattle.hpb_rules.specs.Tree.{Rules}
use Rattle.hpb_rules.specs.AuctionValue.{AuctionValue}
use Rattle.hpb_server.specs.DeskLaws.{RepliesAfter, ShowsAfter}

-- **Ways.** `hpb_server/specs`. A desk has states. Its ways say what it may reply and show at each of them, and which
-- state follows. Their laws hold of each desk.
pub record Ways (State : Type 0) : Type 1 where
  -- the rules of a state, by which lines are read
  pub rules : State → Rules
  -- whether the session is over at a state: the desk is asked nothing more
  pub over : State → Bool
  -- a desk at this state may have shown this history
  pub tells : State → List Command → Type 0
  -- a desk at a state may give this reply to a command, and then have this state
  pub asks : State → Command → Reply → State → Type 0
  -- a desk at a state may show this auction, or none any more, and then have this state
  pub looks : State → Option AuctionValue → State → Type 0
  -- how many commands are asked together at most
  pub most : ℕ
  -- whether memory may be refused when commands are asked, and when the desk does its upkeep
  pub takes_memory : Bool
  -- whether asking takes a wait, as for a commit
  pub waits : Bool
  -- At least one command can be asked, and no more together than a batch has.
  pub most_is_some : (0 < most) × (most ≤ MOST_LETTERS)
  -- The definition never changes.
  pub rules_stay : (old new : State) (command : Command) (reply : Reply) → asks old command reply new → rules new ≡ rules old
  -- A reply is that of the rules after a history that continues the one shown before, or one that the desk gives for
  -- itself.
  pub replies_go_on : (old new : State) (command : Command) (reply : Reply) (told : List Command) → asks old command reply new → tells old told → RepliesAfter (rules old) told command reply (tells new)
  -- The auction that is shown is one after a history that continues the one shown before.
  pub shows_go_on : (old new : State) (shown : Option AuctionValue) (told : List Command) → looks old shown new → tells old told → ShowsAfter told shown (tells new)
