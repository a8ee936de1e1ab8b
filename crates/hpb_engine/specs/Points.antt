-- What can be found after a stop of a run, whenever the stop comes.
-- Source: this project's own. It is durable linearizability: every answer that was given holds after a stop, and
-- nothing is found that wasn't requested. (Izraelevitz, Mendes, Scott, Linearizability of Persistent Memory Objects
-- under a Full-System-Crash Failure Model, 2016.)
use Rattle.std.specs.Prelude.{◌≡◌, ◌⊎◌, ℕ, ◌+◌, ◌≤◌, false, List, [], ◌∷◌, ◌++◌, Option, None, length, All}
use Rattle.hpb_rules.specs.declared.command.Command.{Command}
use Rattle.hpb_rules.specs.declared.letter.Answer.{Answer}
use Rattle.hpb_rules.specs.declared.reply.Reply.TheVariants as replies
use Rattle.hpb_rules.specs.AuctionValue.{AuctionValue, Shows}
use Rattle.hpb_rules.specs.Fronts.{IsFront}
use Rattle.hpb_rules.specs.Letters.{Fits}
use Rattle.hpb_rules.specs.Machine as machine
use Rattle.hpb_rules.specs.Machine.{Machine, MayStand, at_rest, run}
use Rattle.hpb_rules.specs.MachineLaws.{IsSound}
use Rattle.hpb_rules.specs.Tree.{Rules}
use Rattle.hpb_recover.specs.Standing.{Stands}
use Rattle.hpb_engine.specs.declared.event.Event.{Event}
use Rattle.hpb_engine.specs.declared.event.Event.TheVariants as events
use Rattle.hpb_engine.specs.declared.step.Fault.{Fault}
use Rattle.hpb_disk.specs.Device.{Device}
use Rattle.hpb_engine.specs.Keeping.{Running}
use Rattle.hpb_engine.specs.Runs.{Pause, Ran}
use Rattle.hpb_engine.specs.Starts.{IsStarted}
use Rattle.hpb_engine.specs.declared.progress.Progress.{Progress}
use Rattle.hpb_recover.specs.declared.plan.Plan.{Plan}

-- **The points of a run.** These describe a run to a caller who knows nothing of an engine's insides. A run has a point
-- at its start and one after each event that was taken. Between two of them the device has at most one call.
--
-- A point of a run, its start or the end of an event: the moment of the device, and the moves that the machine without
-- a disk has made.
pub record Point : Type 0 where
  pub moment : ℕ
  pub moves : List machine.Event

-- An event is at most one move of the machine. Letters are offered or dropped; a turn is made, or its device call
-- fails; a step of a checkpoint is no move.
abbrev pub IsMove : Event → List machine.Event → Type 0
IsMove (events.Offer letters) moves = (moves ≡ machine.offer letters ∷ []) ⊎ (moves ≡ [])
IsMove events.Commit moves = (moves ≡ machine.commit ∷ []) ⊎ (moves ≡ machine.failed_commit ∷ [])
IsMove events.Checkpoint moves = moves ≡ []

-- From one point to the next.
pub record GoesOn (event : Event) (before after : Point) : Type 0 where
  pub added : List machine.Event
  pub is : IsMove event added
  pub moves : after.moves ≡ before.moves ++ added
  pub later : before.moment ≤ after.moment
  pub next : after.moment ≤ before.moment + 1

-- The start of a run.
abbrev pub start_at : Device → Point
start_at device = record { moment = device.moment; moves = [] }

-- Events from a point on, with a point after each that is taken.
abbrev pub Go : List Event → Point → List Point → Type 0
Go events before [] = Unit {0}
Go [] before (after ∷ points) = ⊥
Go (event ∷ events) before (after ∷ points) = GoesOn event before after × Go events after points

-- The last of the points.
abbrev pub last_of : Point → List Point → Point
last_of point [] = point
last_of point (next ∷ points) = last_of next points

-- An answer that accepts a command names a number that is acknowledged. The first is 1.
abbrev pub IsCounted : List Command → Answer → Type 0
IsCounted acknowledged answered = (number : ℕ) → answered.reply ≡ replies.Ok number → (1 ≤ number) × (number ≤ length acknowledged)

module _ (rules : Rules) (first : List Command) where
  -- The acknowledged commands at a point, and the answers that have left by then, follow from its moves and from the
  -- commands that the device stood for at first.
  --
  -- The machine at a point: from rest with the first commands on, after the point's moves. The answers that have left
  -- by then, and the acknowledged commands.
  abbrev pub machine_at : Point → Machine
  machine_at point = (run rules (at_rest first) point.moves).machine

  abbrev pub told_at : Point → List Answer
  told_at point = (run rules (at_rest first) point.moves).leaving

  abbrev pub acknowledged_at : Point → List Command
  acknowledged_at point = (machine_at point).acknowledged

  -- The points of a run are those of the engine's own pauses: each has the moment of its pause, and the machine that
  -- the engine keeps there.
  abbrev pub AreOfPauses : List Pause → List Point → Type 0
  AreOfPauses [] [] = Unit {0}
  AreOfPauses [] (point ∷ points) = ⊥
  AreOfPauses (pause ∷ pauses) [] = ⊥
  AreOfPauses (pause ∷ pauses) (point ∷ points) = (point.moment ≡ pause.moment) × (machine_at point ≡ pause.machine) × AreOfPauses pauses points

  -- **What a crash leaves of a run.** Bytes that a stop left since a point stand for a history that begins with all
  -- that was acknowledged there. The history is whole batches: one that may stand after a stop at that point or at a
  -- later one. Each answer that had left by the point is true of it.
  --
  -- A stop at one of the points may leave this history.
  abbrev pub MayStandAt : List Point → List Command → Type 0
  MayStandAt [] history = ⊥
  MayStandAt (point ∷ points) history = MayStand (machine_at point) history ⊎ MayStandAt points history

  -- An image that a stop left at a point or later stands for a history that begins with all that was acknowledged at
  -- the point. The history is whole batches: a stop at this point or at a later one may leave it. The answers that had
  -- left are true of it.
  pub record Finds (point : Point) (later : List Point) (image : List ℕ) : Type 0 where
    pub history : List Command
    pub stands : Stands history image
    pub begins : IsFront (acknowledged_at point) history
    pub batches : MayStandAt (point ∷ later) history
    pub true_of : All (Fits rules history) (told_at point)

  -- The facts at a point, given the points after it.
  pub record IsKept (since : ℕ → List ℕ → Type 0) (point : Point) (later : List Point) : Type 0 where
    -- The acknowledged commands are a history that begins with the first ones. Answers in flight, if any, are those of
    -- letters judged after it.
    pub sound : IsSound rules (machine_at point)
    pub begins : IsFront first (acknowledged_at point)
    -- Each answer that has left is true of them, and one that accepts a command names one of them.
    pub true_of : All (Fits rules (acknowledged_at point)) (told_at point)
    pub counted : All (IsCounted (acknowledged_at point)) (told_at point)
    -- These hold of every image that a stop at this moment or later left.
    pub finds : (image : List ℕ) → since point.moment image → Finds point later image

-- A run of a device that stood for the first commands survives every stop if these facts hold at each of its points,
-- however the points are cut at one. Its last point is its end, with the answers that were handed out. Without a fault,
-- each event has a point.
--
-- A run of a device that stood for the first commands: there are points, one at the start and one after each event. No
-- command that was acknowledged at one of them is lost.
pub record Survives (rules : Rules) (first : List Command) (old new : Device) (events : List Event) (answers : List Answer) (fault : Option Fault) : Type 0 where
  pub points : List Point
  pub go : Go events (start_at old) points
  -- Without a fault all events are taken.
  pub all : fault ≡ None → length points ≡ length events
  -- The last point is the end: these are the answers that left.
  pub ends : (last_of (start_at old) points).moment ≡ new.moment
  pub told : answers ≡ told_at rules first (last_of (start_at old) points)
  -- However the points are cut at one of them.
  pub kept : (before : List Point) (point : Point) (later : List Point) → start_at old ∷ points ≡ before ++ point ∷ later → IsKept rules first new.left_since point later

-- The auction found after a stop. It shows a history that begins with all that was acknowledged at the point. It
-- is whole batches from the first on, and the answers that had left by then are true of it.
pub record IsFound (rules : Rules) (first : List Command) (point : Point) (later : List Point) (auction : AuctionValue) : Type 0 where
  pub history : List Command
  pub shows : Shows auction history
  pub begins : IsFront (acknowledged_at rules first point) history
  pub batches : MayStandAt rules first (point ∷ later) history
  pub true_of : All (Fits rules history) (told_at rules first point)

-- An image that may have been left since a point of a run.
pub record IsLeft (points before : List Point) (point : Point) (later : List Point) (device : Device) (image : List ℕ) : Type 0 where
  pub cut : points ≡ before ++ point ∷ later
  pub left : device.left_since point.moment image

-- The points are those of a run of an engine that was started with the opened device, which stood for the first
-- commands. The run says for each event what became of it and at which pause. An offer is dropped only if a batch is in
-- flight or no clean frame is left.
pub record AreOfRun (plan : Plan) (start : Point) (first : List Command) (points : List Point) (events : List Event) (run : Running) (answers : List Answer) (fault : Option Fault) : Type 0 where
  pub begun : Progress
  pub started : IsStarted begun plan
  pub ran : Ran (record { moment = start.moment; progress = begun; failed = false; machine = at_rest first }) events run answers fault
  pub paused : AreOfPauses plan.auction.rules first (record { moment = start.moment; progress = begun; failed = false; machine = at_rest first } ∷ ran.pauses) (start ∷ points)
