-- Commands that a value newly accepts one after another.
-- Source: this project's own.
use Rattle.std.specs.Prelude.{◌≡◌, true, List, [], ◌∷◌}
use Rattle.hpb_rules.specs.declared.command.Command.{Command}
use Rattle.hpb_rules.specs.Answer.{is_reply_new}
use Rattle.hpb_rules.specs.AuctionValue.{AuctionValue}
use Rattle.hpb_rules.specs.Values.{reply_in, next_value}

-- **Accepted commands.** The commands that a value newly accepts one after another. They are the commands that may
-- follow in a history that it shows.
--
-- A value newly accepts a command.
abbrev pub Accepts : AuctionValue → Command → Type 0
Accepts value command = is_reply_new value.count (reply_in value command) ≡ true

-- Each of the commands is newly accepted after those before it.
abbrev pub AllAccepted : AuctionValue → List Command → Type 0
AllAccepted value [] = Unit {0}
AllAccepted value (command ∷ commands) = Accepts value command × AllAccepted (next_value value command) commands
