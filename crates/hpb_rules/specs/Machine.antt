-- The machine without a disk: how letters come to be acknowledged, and the commands that a stop may leave. Source: this
-- project's own.
use Rattle.std.specs.Prelude.{◌≡◌, ℕ, suc, Bool, true, false, ◌||◌, ◌==◌, List, [], ◌∷◌, ◌++◌, Option, Some, None, if◌then◌else◌, ◌⊎◌}
use Rattle.hpb_rules.specs.declared.command.Command.{Command}
use Rattle.hpb_rules.specs.declared.letter.Answer.{Answer}
use Rattle.hpb_rules.specs.declared.letter.Letter.{Letter}
use Rattle.hpb_rules.specs.Tree.{Rules}
use Rattle.hpb_rules.specs.Letters.{judged, new_commands}

-- **Machine.** It has the acknowledged commands and perhaps a flight: answers on their way, with the turns that they
-- have had. Letters are offered if nothing is in flight. If none is newly accepted, the answers leave at once. A flight
-- has four turns. By the third it has landed. At the fourth it is acknowledged: its commands count, and all its answers
-- leave. A stop keeps the acknowledged commands, and once a flight has landed it may keep its commands too.
--
-- A flight: answers, at least one of which newly accepts a command, with the turns that they have had. At the third
-- turn they land.
pub record Flight : Type 0 where
  pub answers : List Answer
  pub turns : ℕ

-- The machine has the acknowledged commands, and a flight or none.
pub record Machine : Type 0 where
  pub acknowledged : List Command
  pub flight : Option Flight

-- Letters are offered, or a turn is made. The device call of a turn may fail.
pub data Event : Type 0 where
  offer : List Letter → Event
  commit : Event
  failed_commit : Event

-- The effect of events: the answers that leave, and the machine afterwards.
pub record Effect : Type 0 where
  pub leaving : List Answer
  pub machine : Machine

-- The number of turns after which a flight has landed.
abbrev pub landed : ℕ
landed = 3

-- The machine with these acknowledged commands and nothing in flight.
abbrev pub at_rest : List Command → Machine
at_rest acknowledged = record { acknowledged = acknowledged; flight = None }

-- The machine with these acknowledged commands, and answers in flight that have had this many turns.
abbrev pub in_flight : List Command → List Answer → ℕ → Machine
in_flight acknowledged answers turns = record { acknowledged = acknowledged; flight = Some (record { answers = answers; turns = turns }) }

-- If no letter is newly accepted, the answers leave at once; otherwise they are in flight.
abbrev pub offered : List Command → List Answer → List Command → Effect
offered acknowledged answers [] = record { leaving = answers; machine = at_rest acknowledged }
offered acknowledged answers (command ∷ more) = record { leaving = []; machine = in_flight acknowledged answers 0 }

-- A turn of a flight. The turn after landing acknowledges it: its commands count, and all its answers leave. A turn
-- whose device call fails changes nothing, except that the third one lands the flight all the same.
abbrev pub turned : Bool → List Command → Flight → Effect
turned works acknowledged flight =
    if flight.turns == landed then
    (if works then record { leaving = flight.answers; machine = at_rest (acknowledged ++ new_commands flight.answers) }
    else record { leaving = []; machine = in_flight acknowledged flight.answers landed })
    else
    (if works || (suc flight.turns == landed) then record { leaving = []; machine = in_flight acknowledged flight.answers (suc flight.turns) }
    else record { leaving = []; machine = in_flight acknowledged flight.answers flight.turns })

-- A turn of the machine. With nothing in flight it changes nothing.
abbrev pub turn : Bool → Machine → Effect
turn works machine = elim machine.flight [ None ↦ record { leaving = []; machine = machine } | Some flight ↦ turned works machine.acknowledged flight ]

-- Letters are offered to a machine with nothing in flight. During a flight nothing changes.
abbrev pub take_letters : Rules → Machine → List Letter → Effect
take_letters rules machine letters = elim machine.flight [
  | None ↦ (let answers = judged rules machine.acknowledged letters in offered machine.acknowledged answers (new_commands answers))
  | Some flight ↦ record { leaving = []; machine = machine }
]

-- The effect of one event.
abbrev pub effect_of : Rules → Machine → Event → Effect
effect_of rules machine (offer letters) = take_letters rules machine letters
effect_of rules machine commit = turn true machine
effect_of rules machine failed_commit = turn false machine

-- The effect of events one after another, with all answers that leave.
abbrev pub run : Rules → Machine → List Event → Effect
run rules machine [] = record { leaving = []; machine = machine }
run rules machine (what ∷ events) =
    let first = effect_of rules machine what in
    let rest = run rules first.machine events in
    record { leaving = first.leaving ++ rest.leaving; machine = rest.machine }

-- The commands that may be left after a stop: the acknowledged ones or, once a flight has landed, these with its
-- commands.
abbrev pub MayStand : Machine → List Command → Type 0
MayStand machine history = elim machine.flight [
  | None ↦ history ≡ machine.acknowledged
  | Some flight ↦ (history ≡ machine.acknowledged)
      ⊎ ((flight.turns ≡ landed) × (history ≡ machine.acknowledged ++ new_commands flight.answers))
]

-- **Moves.** A move is one event, or a stop, after which the machine is at rest with commands that a stop may leave.
--
-- One move of the machine, with the answers that leave: an event, or a stop, after which it is at rest with commands
-- that a stop may leave.
pub data Moves (rules : Rules) : Machine → List Answer → Machine → Type 0 where
  event : {before : Machine} (what : Event) → Moves rules before (effect_of rules before what).leaving (effect_of rules before what).machine
  stop : {before : Machine} {history : List Command} → MayStand before history → Moves rules before [] (at_rest history)

-- Moves one after another, with all answers that leave.
pub data Reaches (rules : Rules) : Machine → List Answer → Machine → Type 0 where
  here : {machine : Machine} → Reaches rules machine [] machine
  further : {before between after : Machine} {leaving more : List Answer} → Moves rules before leaving between → Reaches rules between more after → Reaches rules before (leaving ++ more) after
