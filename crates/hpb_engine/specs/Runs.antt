-- Runs of an engine: events one after another, with the facts that hold since each of them.
use Rattle.std.specs.Prelude.{◌≡◌, ◌⊎◌, ℕ, ◌+◌, ◌<◌, ◌≤◌, Bool, true, false, List, [], ◌∷◌, ◌++◌, Option, Some, None, Result, Ok, Err}
use Rattle.hpb_rules.specs.declared.letter.Answer.{Answer}
use Rattle.hpb_rules.specs.declared.letter.Letter.{Letter}
use Rattle.hpb_rules.specs.AuctionValue.{Shows}
use Rattle.hpb_rules.specs.Machine.{Machine}
use Rattle.hpb_disk.specs.Device.{Device, LeavesOnly}
use Rattle.hpb_engine.specs.declared.progress.Progress.{Progress}
use Rattle.hpb_engine.specs.Keeping.{Keeps, Running, StandsEither, StandsFor, flight_of}
use Rattle.hpb_engine.specs.Numbers.{IsSafe}
use Rattle.hpb_engine.specs.declared.begun.Begun.{Begun}
use Rattle.hpb_engine.specs.declared.event.Event.{Event}
use Rattle.hpb_engine.specs.declared.event.Event.TheVariants as events
use Rattle.hpb_engine.specs.declared.step.Fault.{Fault}
use Rattle.hpb_engine.specs.declared.step.Fault.TheVariants as faults
use Rattle.hpb_engine.specs.declared.step.Rest.{Rest}
use Rattle.hpb_engine.specs.declared.step.Step.{Step}
use Rattle.hpb_engine.specs.Checkpoints.{CheckpointLeads, SameCore, checkpoint_calls}
use Rattle.hpb_engine.specs.Offers.{StaysUnlessInFlight, Weighs, offer_by, weight_of}
use Rattle.hpb_engine.specs.Steps.{TurnLeads, turn_by, turn_calls}

-- **Runs.** A pause is the state of an engine between two events. One event leads from a pause to the next: letters are
-- offered, or a turn or a step is made. It says which answers leave and whether the device fails. A run has a pause
-- after each event that was taken; the first at which the device fails (91) is the last.
--
-- The state of an engine between two events: the moment, its progress, whether the device has failed, and the machine
-- without a disk that it keeps.
pub record Pause : Type 0 where
  pub moment : ℕ
  pub progress : Progress
  pub failed : Bool
  pub machine : Machine

-- A run ends with a fault of the device alone: 93 ends none.
abbrev pub fault_in : {T : Type 0} → Result T Fault → Option Fault
fault_in (Ok told) = None
fault_in (Err faults.Device) = Some faults.Device
fault_in (Err faults.Failed) = None

-- After a step the engine counts as failed if and only if the step was refused.
abbrev pub failed_by : {T : Type 0} → Result T Fault → Bool
failed_by (Ok told) = false
failed_by (Err fault) = true

-- A fault is reported if and only if the number of the device's failures has risen, and it is 91.
abbrev pub HasFailed : Option Fault → (old new : Device) → Type 0
HasFailed None old new = new.failures ≡ old.failures
HasFailed (Some fault) old new = (fault ≡ faults.Device) × (old.failures < new.failures)

-- At a pause the committed auction shows the acknowledged commands. The batch in flight is the machine's, and the
-- numbers of batches and frames agree.
pub record IsTold (pause : Pause) : Type 0 where
  pub safe : IsSafe pause.progress
  pub shows : Shows pause.progress.committed pause.machine.acknowledged
  pub flight : pause.machine.flight ≡ flight_of pause.progress.commit

-- Letters are offered: the machine takes them, or they are dropped, by their weight.
pub record IsOffered (letters : List Letter) (begun : Begun) (before after : Pause) (leaving : List Answer) : Type 0 where
  pub weight : Weighs before.failed before.progress letters (weight_of begun)
  pub stays : StaysUnlessInFlight begun before.progress after.progress
  pub machine : after.machine ≡ (offer_by begun before.progress.committed.rules before.machine letters).machine
  pub answers : leaving ≡ (offer_by begun before.progress.committed.rules before.machine letters).leaving
  pub told : IsTold after
  pub moment : after.moment ≡ before.moment
  pub failed : after.failed ≡ before.failed

-- A turn is made: the machine makes it, unless the device failed before.
pub record IsTurned (result : Result Step Fault) (before after : Pause) (leaving : List Answer) : Type 0 where
  pub leads : TurnLeads before.failed result before.progress after.progress
  pub machine : after.machine ≡ (turn_by result before.machine).machine
  pub answers : leaving ≡ (turn_by result before.machine).leaving
  pub rules : after.progress.committed.rules ≡ before.progress.committed.rules
  pub told : IsTold after
  pub failed : after.failed ≡ failed_by result
  pub later : before.moment ≤ after.moment
  pub call : after.moment ≡ before.moment + turn_calls before.failed before.progress

-- A step of a checkpoint is made: the machine stays, and no answer leaves.
pub record IsStepped (result : Result Rest Fault) (before after : Pause) (leaving : List Answer) : Type 0 where
  pub leads : CheckpointLeads before.failed result before.progress after.progress
  pub same : SameCore before.progress after.progress
  pub machine : after.machine ≡ before.machine
  pub answers : leaving ≡ []
  pub clean : before.progress.window.clean_end ≤ after.progress.window.clean_end
  pub told : IsTold after
  pub failed : after.failed ≡ failed_by result
  pub later : before.moment ≤ after.moment
  pub call : after.moment ≡ before.moment + checkpoint_calls before.failed before.progress

-- One event: the answers that leave with it, and whether the device fails in it.
abbrev pub Follows : Event → Pause → Pause → List Answer → Option Fault → Type 0
Follows (events.Offer letters) before after leaving fault = (begun : Begun) × IsOffered letters begun before after leaving × (fault ≡ None)
Follows events.Commit before after leaving fault = (result : Result Step Fault) × IsTurned result before after leaving × (fault ≡ fault_in result)
Follows events.Checkpoint before after leaving fault = (result : Result Rest Fault) × IsStepped result before after leaving × (fault ≡ fault_in result)

-- Events one after another, with a pause after each. The first at which the device fails is the last that is taken.
abbrev pub Drove : List Event → Pause → List Pause → List Answer → Option Fault → Type 0
Drove [] before [] answers fault = (answers ≡ []) × (fault ≡ None)
Drove [] before (after ∷ pauses) answers fault = ⊥
Drove (event ∷ events) before [] answers fault = ⊥
Drove (event ∷ events) before (after ∷ pauses) answers fault =
    ((leaving more : List Answer) × Follows event before after leaving None × Drove events after pauses more fault × (answers ≡ leaving ++ more))
    ⊎ ((told : Fault) × Follows event before after answers (Some told) × (pauses ≡ []) × (fault ≡ Some told))

-- The last of the pauses.
abbrev pub last_of : Pause → List Pause → Pause
last_of pause [] = pause
last_of pause (next ∷ pauses) = last_of next pauses

-- An image stands for what a stop may leave at one of the pauses.
abbrev pub StandsAtOne : List Pause → List ℕ → Type 0
StandsAtOne [] image = ⊥
StandsAtOne (pause ∷ pauses) image = StandsFor pause.machine image ⊎ StandsAtOne pauses image

-- Every image that a crash may have left since a pause stands for what a stop may leave at that pause or at a later
-- one. Acknowledged commands only grow from pause to pause, so the image holds all that were acknowledged at that
-- pause.
abbrev pub Holds : (now : ℕ) (since : ℕ → List ℕ → Type 0) → Pause → List Pause → Type 0
Holds now since pause [] = (pause.moment ≤ now) × ((image : List ℕ) → since pause.moment image → StandsAtOne (pause ∷ []) image)
Holds now since pause (next ∷ pauses) = (pause.moment ≤ now) × ((image : List ℕ) → since pause.moment image → StandsAtOne (pause ∷ next ∷ pauses) image) × Holds now since next pauses

-- The pause of an engine that keeps this machine.
abbrev pub pause_of : Running → Machine → Pause
pause_of run machine = record { moment = run.device.moment; progress = run.progress; failed = run.failed; machine = machine }

-- The facts after a run from a pause.
pub record Ran (start : Pause) (events : List Event) (run : Running) (answers : List Answer) (fault : Option Fault) : Type 0 where
  pub pauses : List Pause
  -- Each event does what it does to the machine without a disk, and these are the answers that leave, in order.
  pub drove : Drove events start pauses answers fault
  -- Since each pause, no command that was acknowledged at it is lost.
  pub holds : Holds run.device.moment run.device.left_since start pauses
  -- The last pause is that of the end, and the engine keeps its machine.
  pub at_end : (last_of start pauses).moment ≡ run.device.moment
  pub progress_is : (last_of start pauses).progress ≡ run.progress
  pub failed_is : (last_of start pauses).failed ≡ run.failed
  pub keeps : Keeps run (last_of start pauses).machine

-- One event of an engine: the machine afterwards, which it keeps, and the images that a crash may have left since.
pub record Took (event : Event) (old new : Running) (machine : Machine) (leaving : List Answer) (fault : Option Fault) : Type 0 where
  pub after : Machine
  pub keeps : Keeps new after
  pub follows : Follows event (pause_of old machine) (pause_of new after) leaving fault
  pub since : LeavesOnly old.device new.device (StandsEither machine after)
