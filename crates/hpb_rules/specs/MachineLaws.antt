-- The laws of the machine without a disk.
use Rattle.std.specs.Prelude.{◌≡◌, ◌<◌, ◌≤◌, List, ◌++◌, Some, length, All}
use Rattle.hpb_rules.specs.declared.command.Command.{Command}
use Rattle.hpb_rules.specs.declared.letter.Answer.{Answer}
use Rattle.hpb_rules.specs.declared.letter.Letter.{Letter}
use Rattle.hpb_rules.specs.Tree.{Rules}
use Rattle.hpb_rules.specs.Answer.{IsHistory}
use Rattle.hpb_rules.specs.Fronts.{IsFront}
use Rattle.hpb_rules.specs.Letters.{Fits, judged, new_commands}
use Rattle.hpb_rules.specs.Machine.{Flight, Machine, Event, landed, at_rest, run, MayStand, Reaches}

-- **Sound, durable.** A machine is sound under two conditions. Its acknowledged commands are a history. A flight, if
-- there is one, has the answers of letters judged after these, with at least one command newly accepted and at most
-- three turns behind it.
--
-- A flight is sound after acknowledged commands under three conditions. Its answers are those of letters judged after
-- these. At least one of them newly accepts a command. It has had at most three turns.
pub record IsSoundFlight (rules : Rules) (acknowledged : List Command) (flight : Flight) : Type 0 where
  pub letters : List Letter
  pub answers : flight.answers ≡ judged rules acknowledged letters
  pub accepts : 0 < length (new_commands flight.answers)
  pub turns : flight.turns ≤ landed

-- A machine is sound if its acknowledged commands are a history, and its flight, if there is one, is sound after these.
pub record IsSound (rules : Rules) (machine : Machine) : Type 0 where
  pub history : IsHistory rules machine.acknowledged
  pub flying : (flight : Flight) → machine.flight ≡ Some flight → IsSoundFlight rules machine.acknowledged flight

-- A machine at rest with a history is sound.
abbrev pub RestIsSound : Type 0
RestIsSound = (rules : Rules) (history : List Command) → IsHistory rules history → IsSound rules (at_rest history)

-- Moves from one machine to another are durable under these conditions. The machine is sound afterwards, and the
-- acknowledged commands have only grown. The commands that a stop may leave are a history that begins with them, and
-- each answer that has left fits them.
pub record IsDurable (rules : Rules) (before : Machine) (leaving : List Answer) (after : Machine) : Type 0 where
  pub sound : IsSound rules after
  pub grows : IsFront before.acknowledged after.acknowledged
  pub stands : (history : List Command) → MayStand after history → IsHistory rules history × IsFront after.acknowledged history
  pub fits : All (Fits rules after.acknowledged) leaving

-- Moves one after another, stops among them, are durable from every sound machine on. So no answer leaves before its
-- command is acknowledged, and no stop takes one back.
abbrev pub MachineKeeps : Type 0
MachineKeeps = (rules : Rules) (before after : Machine) (leaving : List Answer)
    → IsSound rules before → Reaches rules before leaving after → IsDurable rules before leaving after

-- Events one after another are moves.
abbrev pub RunIsMoves : Type 0
RunIsMoves = (rules : Rules) (before : Machine) (events : List Event) → Reaches rules before (run rules before events).leaving (run rules before events).machine

-- Events followed by more have the effect of the events, and then that of the others on the machine after them.
abbrev pub RunJoins : Type 0
RunJoins = (rules : Rules) (machine : Machine) (events more : List Event)
    → let first = run rules machine events in let rest = run rules first.machine more in
    ((run rules machine (events ++ more)).leaving ≡ first.leaving ++ rest.leaving)
    × ((run rules machine (events ++ more)).machine ≡ rest.machine)
