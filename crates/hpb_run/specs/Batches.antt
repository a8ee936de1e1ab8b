-- The results of a commit of letters and of a checkpoint, and their cost: calls of the device, and frames of the journal.
use Rattle.std.specs.Prelude.{◌≡◌, ◌⊎◌, ℕ, ◌+◌, ◌<◌, ◌≤◌, Bool, true, false, List, ◌++◌, Option, Some, None, Result, Ok, Err}
use Rattle.hpb_rules.specs.declared.command.Command.{Command}
use Rattle.hpb_rules.specs.declared.letter.Answer.{Answer}
use Rattle.hpb_rules.specs.declared.letter.Letter.{Letter}
use Rattle.hpb_rules.specs.Letters.{judged, new_commands}
use Rattle.hpb_rules.specs.Machine.{Machine, at_rest, in_flight}
use Rattle.hpb_rules.specs.Tree.{Rules}
use Rattle.hpb_disk.specs.declared.disk.Disk.{Ghosts}
use Rattle.hpb_disk.specs.Device.{Device}
use Rattle.hpb_recover.specs.Standing.{Stands}
use Rattle.hpb_engine.specs.declared.begun.Weight.TheVariants as weights
use Rattle.hpb_engine.specs.declared.engine.Engine.{Engine}
use Rattle.hpb_engine.specs.declared.progress.Progress.{Progress}
use Rattle.hpb_engine.specs.declared.step.Fault.{Fault}
use Rattle.hpb_engine.specs.declared.step.Fault.TheVariants as faults
use Rattle.hpb_engine.specs.Checkpoints.{IsSettled, SameCore, steps_left}
use Rattle.hpb_engine.specs.Engines.{Keeps}
use Rattle.hpb_engine.specs.Moves.{acknowledged, turned}
use Rattle.hpb_engine.specs.Offers.{AreOld, Weighs}

-- A clean frame is left.
abbrev pub HasRoom : Progress → Type 0
HasRoom s = s.window.next < s.window.clean_end

-- The fault that says why letters were not answered, if there is one.
abbrev pub fault_of : {T : Type 0} → Result T Fault → Option Fault
fault_of (Ok told) = None
fault_of (Err fault) = Some fault

-- **A batch as a whole.** There are three results for letters after a history. All are answered by the rules, and the
-- accepted commands are acknowledged with nothing in flight. Or none is taken, since a call of the device failed before
-- their commit (93). Or a call failed in their commit (91): they are in flight, and none is acknowledged.
abbrev pub EndsBy : List Command → (given answers : List Answer) → Option Fault → Machine → (failed : Bool) → Type 0
EndsBy history given answers None machine failed = (failed ≡ false) × (answers ≡ given) × (machine ≡ at_rest (history ++ new_commands given))
EndsBy history given answers (Some faults.Failed) machine failed = (failed ≡ true) × (machine ≡ at_rest history)
EndsBy history given answers (Some faults.Device) machine failed = (failed ≡ true) × (turns : ℕ) × (machine ≡ in_flight history given turns)

-- **Whatever a stop leaves.** Of letters with these answers by the rules after a history, a stop leaves the history
-- alone, or the history with all that they accept. A part of them is never found.
abbrev pub IsAllOrNone : List Command → (given : List Answer) → List ℕ → Type 0
IsAllOrNone history given image = Stands history image ⊎ Stands (history ++ new_commands given) image

-- What a fault says of the device: no call failed; or one failed in the commit (91); or no letter was taken (93).
abbrev pub TellsFailures : Option Fault → (old new : Device) → Type 0
TellsFailures None old new = new.failures ≡ old.failures
TellsFailures (Some faults.Device) old new = old.failures < new.failures
TellsFailures (Some faults.Failed) old new = old.failures ≤ new.failures

-- **What it takes.** Between two checkpoints, letters take a frame and four calls of the device, or nothing if none of
-- them is new. Only letters that find the journal full have a checkpoint made first.
--
-- No checkpoint is on its way.
pub record IsBetween (s : Progress) : Type 0 where
  pub begun : s.checkpoint.steps ≡ 0
  pub retiring : s.retirement.going ≡ false

-- The journal has this many more batches. Nothing else of it has changed, and no step of a checkpoint was made.
pub record HasTaken (batches : ℕ) (s t : Progress) : Type 0 where
  pub next : t.window.next ≡ s.window.next + batches
  pub covered : t.window.covered ≡ s.window.covered
  pub clean : t.window.clean_end ≡ s.window.clean_end
  pub frames : t.window.frames ≡ s.window.frames
  pub checkpoint : t.checkpoint ≡ s.checkpoint
  pub retirement : t.retirement ≡ s.retirement

-- Letters that find room. If none is new, they take no call of the device; otherwise one frame and four calls. If one
-- of these four fails, it is the last. A device that had failed gets no call.
abbrev pub BatchTakes : Option Fault → List Letter → (s t : Progress) (before after : ℕ) → Type 0
BatchTakes None letters s t before after =
    (AreOld s letters × HasTaken 0 s t × (after ≡ before)) ⊎ ((AreOld s letters → ⊥) × HasTaken 1 s t × (after ≡ before + 4))
BatchTakes (Some faults.Device) letters s t before after = HasTaken 0 s t × (before < after) × (after ≤ before + 4)
BatchTakes (Some faults.Failed) letters s t before after = HasTaken 0 s t × (after ≡ before)

-- A whole checkpoint. The newest one covers all committed batches, and all other frames are clean. The committed
-- auction stays. It takes at most one call for each step that was left. If all batches were covered and all other
-- frames clean before, it takes none, and nothing changes.
pub record CheckpointTakes (s t : Progress) (before after : ℕ) : Type 0 where
  pub settled : IsSettled t
  pub same : SameCore s t
  pub least : before ≤ after
  pub most : after ≤ before + steps_left s
  pub none : IsSettled s → (t ≡ s) × (after ≡ before)

-- Letters that find the journal full: a whole checkpoint comes first, and then they find room; or the device fails in
-- that checkpoint, and no batch is taken.
abbrev pub FullTakes : Option Fault → List Letter → (s t : Progress) (before after : ℕ) → Type 0
FullTakes fault letters s t before after =
    ((between : Progress) × (moment : ℕ) × CheckpointTakes s between before moment × BatchTakes fault letters between t moment after)
    ⊎ ((fault ≡ Some faults.Failed) × SameCore s t × (before ≤ after) × (after ≤ before + steps_left s))

module _ {D : Type 0} {disk : Ghosts D} where
  -- The engine keeps the result for letters with these answers by the rules, and its definition.
  abbrev pub KeepsAnswered : Rules → Engine D disk → List Command → (given answers : List Answer) → Option Fault → Type 0
  KeepsAnswered rules engine history given answers fault =
      (machine : Machine) × Keeps engine machine × EndsBy history given answers fault machine engine.failed × (engine.progress.committed.rules ≡ rules)

  -- It does so for letters whose answers by the rules are those by which they are judged after the history.
  abbrev pub KeepsEnded : Rules → Engine D disk → List Command → List Letter → List Answer → Option Fault → Type 0
  KeepsEnded rules engine history letters answers fault = KeepsAnswered rules engine history (judged rules history letters) answers fault

  -- If memory is refused for letters, the acknowledged commands stay, and so does whether the device has failed.
  abbrev pub StaysRefused : (old new : Engine D disk) → Type 0
  StaysRefused old new =
      (new.progress.committed ≡ old.progress.committed) × ((disk.device new.disk).failures ≡ (disk.device old.disk).failures) × (new.failed ≡ true → old.failed ≡ true)

  -- The moment of an engine's device.
  abbrev pub moment_of : Engine D disk → ℕ
  moment_of engine = (disk.device engine.disk).moment

  -- A batch in flight is landed by the turns that are left of its four, with a call each. If one of these calls fails
  -- (91), it is the last.
  abbrev pub Lands : Option Fault → (old new : Engine D disk) → Type 0
  Lands None old new = (new.progress ≡ acknowledged old.progress) × (moment_of new + old.progress.commit.turns ≡ moment_of old + 4)
  Lands (Some fault) old new =
      (fault ≡ faults.Device) × ((turns : ℕ) × (new.progress ≡ turned old.progress turns)) × (moment_of old < moment_of new) × (moment_of new + old.progress.commit.turns ≤ moment_of old + 4)

  -- **What `make_checkpoint` makes.** The committed auction stays, and there is room for a batch, unless the device has
  -- failed. With a fault it has failed; without one it has only if it had before. If no checkpoint is on its way and the
  -- device works, one of all committed batches is made, and finished unless there is a fault. With a fault, too, it takes
  -- at most one call for each step that was left.
  pub record MakesCheckpoint (old new : Engine D disk) (fault : Option Fault) : Type 0 where
    pub committed : new.progress.committed ≡ old.progress.committed
    pub room : (new.failed ≡ true) ⊎ HasRoom new.progress
    pub fails : (told : Fault) → fault ≡ Some told → new.failed ≡ true
    pub works : fault ≡ None → old.failed ≡ false → new.failed ≡ false
    pub whole : IsBetween old.progress → old.failed ≡ false → fault ≡ None → CheckpointTakes old.progress new.progress (moment_of old) (moment_of new)
    pub calls : IsBetween old.progress → old.failed ≡ false → SameCore old.progress new.progress × (moment_of old ≤ moment_of new) × (moment_of new ≤ moment_of old + steps_left old.progress)

  -- The cost of letters, if they find room and if the journal is full. They get 93 only if a call fails, or had failed.
  pub record LettersTake (letters : List Letter) (old new : Engine D disk) (fault : Option Fault) : Type 0 where
    pub found_room : (Weighs old.failed old.progress letters weights.Full → ⊥) → BatchTakes fault letters old.progress new.progress (moment_of old) (moment_of new)
    pub full : IsBetween old.progress → Weighs old.failed old.progress letters weights.Full → FullTakes fault letters old.progress new.progress (moment_of old) (moment_of new)
    pub earlier : fault ≡ Some faults.Failed → (old.failed ≡ true) ⊎ ((disk.device old.disk).failures < (disk.device new.disk).failures)
