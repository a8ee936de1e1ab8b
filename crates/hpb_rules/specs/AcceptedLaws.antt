-- The laws of commands that a value newly accepts: they may follow in a history.
use Rattle.std.specs.Prelude.{◌≡◌, ◌↔◌, ◌+◌, List, ◌++◌, length}
use Rattle.hpb_rules.specs.declared.command.Command.{Command}
use Rattle.hpb_rules.specs.Answer.{IsHistory}
use Rattle.hpb_rules.specs.AuctionValue.{AuctionValue, Shows}
use Rattle.hpb_rules.specs.Values.{value_after}
use Rattle.hpb_rules.specs.AcceptedRuns.{AllAccepted}

-- A value that shows the front of a list of commands accepts the rest exactly if the whole list is a history.
abbrev pub RestIsAccepted : Type 0
RestIsAccepted = (value : AuctionValue) (front rest : List Command) → Shows value front → AllAccepted value rest ↔ IsHistory value.rules (front ++ rest)

-- After accepting that rest the value shows the whole list.
abbrev pub RestIsShown : Type 0
RestIsShown = (value : AuctionValue) (front rest : List Command) → Shows value front → AllAccepted value rest → Shows (value_after value rest) (front ++ rest)

-- Commands followed by more are accepted exactly if the commands are, and then the others by the value after them. The
-- whole list leads to the value that the others then lead to.
abbrev pub AcceptedJoin : Type 0
AcceptedJoin = (value : AuctionValue) (commands others : List Command)
    → (AllAccepted value (commands ++ others) ↔ (AllAccepted value commands × AllAccepted (value_after value commands) others))
    × (value_after value (commands ++ others) ≡ value_after (value_after value commands) others)

-- Each accepted command is counted, and the definition stays.
abbrev pub AcceptedAreCounted : Type 0
AcceptedAreCounted = (value : AuctionValue) (commands : List Command) → AllAccepted value commands
    → ((value_after value commands).count ≡ value.count + length commands) × ((value_after value commands).rules ≡ value.rules)
