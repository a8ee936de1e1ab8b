-- The replies and auctions that a desk may give: they belong to histories that continue one another.
use Rattle.std.specs.Prelude.{◌≡◌, ◌⊎◌, List, Option, Some, None}
use Rattle.hpb_rules.specs.declared.command.Command.{Command}
use Rattle.hpb_rules.specs.declared.reply.Reply.{Reply}
use Rattle.hpb_rules.specs.declared.reply.Reply.TheVariants as replies
use Rattle.hpb_rules.specs.declared.refusal.Refusal.TheVariants as refusals
use Rattle.hpb_rules.specs.Tree.{Rules}
use Rattle.hpb_rules.specs.Answer.{answer, history_after}
use Rattle.hpb_rules.specs.AuctionValue.{AuctionValue, Shows}
use Rattle.hpb_rules.specs.Fronts.{IsFront}

-- A reply that the desk gives for itself, not by the rules. Memory was refused, it can do nothing more, a call of its
-- device failed, or an answer came that isn't the one that it waits for.
abbrev pub IsOfDesk : Reply → Type 0
IsOfDesk reply = (reply ≡ replies.Refused refusals.Memory) ⊎ (reply ≡ replies.Refused refusals.Failed) ⊎ (reply ≡ replies.Refused refusals.Device) ⊎ (reply ≡ replies.Refused refusals.Order)

-- After a history was shown, a command gets the reply of the rules after a history that continues it, and the desk then
-- shows that one with the command. Or the desk replies for itself, and nothing is accepted.
abbrev pub RepliesAfter : (rules : Rules) (told : List Command) → Command → Reply → (tells : List Command → Type 0) → Type 0
RepliesAfter rules told command reply tells =
    (history : List Command) × IsFront told history × (((reply ≡ answer rules history command) × tells (history_after rules history command)) ⊎ (IsOfDesk reply × tells history))

-- The auction that is then shown is one after a history that continues it.
abbrev pub ShowsAfter : (told : List Command) → Option AuctionValue → (tells : List Command → Type 0) → Type 0
ShowsAfter told None tells = (history : List Command) × IsFront told history × tells history
ShowsAfter told (Some value) tells = (history : List Command) × IsFront told history × Shows value history × tells history

-- The desk may show a history that continues the one shown before.
abbrev pub GoesOn : (told : List Command) → (tells : List Command → Type 0) → Type 0
GoesOn told tells = (history : List Command) × IsFront told history × tells history
