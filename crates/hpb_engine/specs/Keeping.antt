-- What an engine keeps: the sentence for callers, and the facts on which it rests.
use Rattle.std.specs.Prelude.{◌≡◌, ◌⊎◌, ℕ, Bool, false, List, Option, Some, None, if◌then◌else◌}
use Rattle.hpb_rules.specs.declared.command.Command.{Command}
use Rattle.hpb_rules.specs.AuctionValue.{Shows}
use Rattle.hpb_rules.specs.Machine.{Machine, Flight, MayStand}
use Rattle.hpb_disk.specs.Device.{Device}
use Rattle.hpb_recover.specs.Standing.{Stands}
use Rattle.hpb_engine.specs.declared.progress.Commit.{Commit}
use Rattle.hpb_engine.specs.declared.progress.Progress.{Progress}
use Rattle.hpb_engine.specs.Cuts.{Cut, all}
use Rattle.hpb_engine.specs.Facts.{Facts, Fits, Reads}

-- **Keeps.**
--
-- The commit's batch, as a flight of the machine without a disk.
abbrev pub flight_of : Commit → Option Flight
flight_of commit = if commit.busy then Some (record { answers = commit.answers; turns = commit.turns }) else None

-- The machine with these acknowledged commands, and with the batch in flight of a progress.
abbrev pub machine_of : Progress → List Command → Machine
machine_of s history = record { acknowledged = history; flight = flight_of s.commit }

-- **Stands for.** An image stands for what a stop of a machine may leave: the acknowledged commands or, once a flight
-- has landed, these with its commands. From one machine to the next it stands for what a stop of either may leave.
abbrev pub StandsFor : Machine → List ℕ → Type 0
StandsFor machine image = (history : List Command) × MayStand machine history × Stands history image

-- An image that a crash leaves between one state of the machine and the next stands for what a stop of either may
-- leave.
abbrev pub StandsEither : Machine → Machine → List ℕ → Type 0
StandsEither before after image = StandsFor before image ⊎ StandsFor after image

-- The same by the progress.
abbrev pub StandsBetween : Progress → Progress → List Command → List ℕ → Type 0
StandsBetween s t history image = StandsEither (machine_of s history) (machine_of t history) image

-- An engine's device, its progress, and whether a call of the device has failed.
pub record Running : Type 1 where
  pub device : Device
  pub progress : Progress
  pub failed : Bool

-- The facts on which the sentence rests.
pub record Inside (run : Running) (history : List Command) : Type 0 where
  pub cut : Cut
  pub whole : history ≡ all cut
  pub fits : Fits run.progress cut
  pub images : (image : List ℕ) → run.device.may_leave image → Facts run.progress cut image
  pub reads : run.failed ≡ false → Reads run.progress cut run.device.seen

-- An engine keeps a machine if three things hold. Its committed auction shows the machine's acknowledged commands. The
-- same batch is in flight, with as many turns. Every image that a crash now may leave stands for what a stop of the
-- machine may leave.
pub record Keeps (run : Running) (machine : Machine) : Type 0 where
  pub shows : Shows run.progress.committed machine.acknowledged
  pub flight : machine.flight ≡ flight_of run.progress.commit
  pub images : (image : List ℕ) → run.device.may_leave image → StandsFor machine image
  pub inside : Inside run machine.acknowledged
