-- The replies of a desk to commands that are asked together, the result of a look at it, and the desk of an auction in
-- memory.
use Rattle.std.specs.Prelude.{◌≡◌, ◌⊎◌, ℕ, Bool, true, false, List, [], ◌∷◌, length, Option, Some, None}
use Rattle.std.specs.Borrow.{Bor}
use Rattle.hpb_rules.specs.declared.command.Command.{Command}
use Rattle.hpb_rules.specs.declared.reply.Reply.{Reply}
use Rattle.hpb_rules.specs.Tree.{Rules}
use Rattle.hpb_rules.specs.AuctionValue.{AuctionValue}
use Rattle.hpb_rules.specs.Values.{reply_in, next_value}
use Rattle.hpb_server.specs.Ways.{Ways}

-- Commands are asked one after another. Once the session is over none is asked, and the rest gets no reply.
abbrev pub AsksAll : {State : Type 0} (ways : Ways State) → State → List Command → List Reply → State → Type 0
AsksAll {State} ways old [] replies new = (new ≡ old) × (replies ≡ [])
AsksAll {State} ways old (command ∷ more) replies new =
    ((ways.over old ≡ true) × (new ≡ old) × (replies ≡ []))
    ⊎ ((ways.over old ≡ false) × (reply : Reply) × (rest : List Reply) × (next : State) × ways.asks old command reply next × AsksAll ways next more rest new × (replies ≡ reply ∷ rest))

-- The value of the auction that is shown, if one is.
abbrev pub seen : Option (Bor AuctionValue) → Option AuctionValue
seen None = None
seen (Some auction) = Some auction.now

-- An auction has a place for each node and each bidder of a definition.
abbrev pub HasPlaces : Rules → Rules → Type 0
HasPlaces definition shown = (length shown.nodes ≡ length definition.nodes) × (length shown.bidders ≡ length definition.bidders)

-- From each state that the desk had, it went in this way to a state that it has now.
abbrev pub Moves : {Desk State : Type 0} (is_at : Desk → State → Type 0) (old new : Desk) (way : State → State → Type 0) → Type 0
Moves {Desk} {State} is_at old new way = (state : State) → is_at old state → (next : State) × way state next × is_at new next

-- A look doesn't change the state.
abbrev pub LooksStay : {State : Type 0} → Ways State → Type 0
LooksStay {State} ways = (old new : State) (shown : Option AuctionValue) → ways.looks old shown new → new ≡ old

-- The state of an auction in memory is its value.
abbrev pub IsItself : AuctionValue → AuctionValue → Type 0
IsItself desk state = state ≡ desk

-- **The desk of an auction in memory.** Its states are values. It replies as a value does, and shows the value itself.
--
-- The rules of an auction in memory.
abbrev pub rules_in : AuctionValue → Rules
rules_in value = value.rules

-- It never ends a session.
abbrev pub never_over : AuctionValue → Bool
never_over value = false

-- It is asked for one command at a time.
abbrev pub one_asked : ℕ
one_asked = 1

-- Being asked takes no memory.
abbrev pub no_memory : Bool
no_memory = false

-- An auction in memory gives the reply of its value, and becomes the next value.
abbrev pub RepliesIn : AuctionValue → Command → Reply → AuctionValue → Type 0
RepliesIn old command reply new = (reply ≡ reply_in old command) × (new ≡ next_value old command)

-- It shows itself, and stays as it is.
abbrev pub ShowsItself : AuctionValue → Option AuctionValue → AuctionValue → Type 0
ShowsItself old shown new = (shown ≡ Some old) × (new ≡ old)
