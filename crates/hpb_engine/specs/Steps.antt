-- The results of steps, their effects, and the images that a crash may leave since.
use Rattle.std.specs.Prelude.{◌≡◌, ℕ, ◌+◌, ◌<◌, Bool, true, false, List, [], ◌∷◌, ◌++◌, length, Result, Ok, Err, MatchResult, OnOk, OnErr, ⊤, if◌then◌else◌}
use Rattle.hpb_rules.specs.declared.command.Command.{Command}
use Rattle.hpb_rules.specs.declared.letter.Answer.{Answer}
use Rattle.hpb_rules.specs.declared.refusal.Refusal.{Refusal}
use Rattle.hpb_rules.specs.declared.refusal.Refusal.TheVariants as refusals
use Rattle.hpb_rules.specs.Machine.{Machine, Effect, turn}
use Rattle.hpb_disk.specs.Asked.{Asked, Asks}
use Rattle.hpb_disk.specs.Asked.Asked.{syncs}
use Rattle.hpb_disk.specs.Device.{Device, LeavesOnly, MakesCall}
use Rattle.hpb_disk.specs.Images.{Only}
use Rattle.hpb_engine.specs.declared.progress.Progress.{Progress}
use Rattle.hpb_engine.specs.Asking.{turn_asks}
use Rattle.hpb_engine.specs.Keeping.{Inside, Keeps, Running, StandsBetween, StandsEither}
use Rattle.hpb_engine.specs.Moves.{turned, acknowledged}
use Rattle.hpb_engine.specs.declared.step.Fault.{Fault}
use Rattle.hpb_engine.specs.declared.step.Fault.TheVariants as faults
use Rattle.hpb_engine.specs.declared.step.Step.{Step}
use Rattle.hpb_engine.specs.declared.step.Step.TheVariants as steps
use Rattle.hpb_engine.specs.declared.step.Turned.{Turned}
use Rattle.hpb_engine.specs.declared.step.Turned.TheVariants as turns

-- The refusal by which a fault is reported.
abbrev pub refusal_of : Fault → Refusal
refusal_of faults.Device = refusals.Device
refusal_of faults.Failed = refusals.Failed

-- The result of a step, by what its turn did and by the answers that leave.
abbrev pub step_of : Result Turned Fault → List Answer → Result Step Fault
step_of (Ok turns.Idle) leaving = Ok steps.Idle
step_of (Ok turns.Went) leaving = Ok steps.Went
step_of (Ok turns.Done) leaving = Ok (steps.Done leaving)
step_of (Err fault) leaving = Err fault

-- The acknowledged commands after a turn.
abbrev pub acknowledged_by : Result Step Fault → Progress → List Command → List Command
acknowledged_by (Ok steps.Idle) s history = history
acknowledged_by (Ok steps.Went) s history = history
acknowledged_by (Ok (steps.Done answers)) s history = history ++ s.commit.batch.commands
acknowledged_by (Err fault) s history = history

-- What a turn does to the machine without a disk: a turn that works, or one whose device call fails. After a fault
-- there is none.
abbrev pub turn_by : Result Step Fault → Machine → Effect
turn_by (Ok step) machine = turn true machine
turn_by (Err faults.Device) machine = turn false machine
turn_by (Err faults.Failed) machine = record { leaving = []; machine = machine }

-- The answers that leave with a turn.
abbrev pub leaving_with : Result Step Fault → List Answer
leaving_with (Ok steps.Idle) = []
leaving_with (Ok steps.Went) = []
leaving_with (Ok (steps.Done answers)) = answers
leaving_with (Err fault) = []

-- How many calls of the device a turn makes.
abbrev pub turn_calls : (failed : Bool) → Progress → ℕ
turn_calls failed s = if failed then 0 else length (turn_asks s)

-- What a turn changes, by its result: the fourth alone is the last one, and a failed third one counts.
abbrev pub TurnLeads : (failed : Bool) → Result Step Fault → Progress → Progress → Type 0
TurnLeads failed (Ok steps.Idle) s t = (failed ≡ false) × (s.commit.busy ≡ false) × (t ≡ s)
TurnLeads failed (Ok steps.Went) s t = (failed ≡ false) × (s.commit.busy ≡ true) × (s.commit.turns < 3) × (t ≡ turned s (s.commit.turns + 1))
TurnLeads failed (Ok (steps.Done answers)) s t = (failed ≡ false) × (s.commit.busy ≡ true) × (s.commit.turns ≡ 3) × (answers ≡ s.commit.answers) × (t ≡ acknowledged s)
TurnLeads failed (Err faults.Device) s t = (failed ≡ false) × (s.commit.busy ≡ true) × (s.commit.turns ≡ 2 → t ≡ turned s 3) × ((s.commit.turns ≡ 2 → ⊥) → t ≡ s)
TurnLeads failed (Err faults.Failed) s t = (failed ≡ true) × (t ≡ s)

-- An image that a crash may have left since before the call stands for what a stop may leave, before the call or after
-- it.
abbrev pub LeavesBetween : (old new : Running) → Type 0
LeavesBetween old new = (history : List Command) → Inside old history → LeavesOnly old.device new.device (StandsBetween old.progress new.progress history)

-- The result of a step without its value: done, or a fault.
abbrev pub outcome_of : {T : Type 0} → Result T Fault → Result ⊤ Fault
outcome_of (Ok told) = Ok tt
outcome_of (Err fault) = Err fault

-- A step as the device sees it. The device may have failed before.
pub record OnDevice {T : Type 0} (old new : Running) (result : Result T Fault) (call : List Asked) : Type 0 where
  -- Its calls of the device are known beforehand: at most one, and none after a fault.
  pub calls : new.device.moment ≡ old.device.moment + (if old.failed then 0 else length call)
  -- It makes the one call of this step, if there is one, whether that succeeds or not.
  pub asked : old.failed ≡ false → Asks result call old.device.asked new.device.asked
  -- 91 comes only if a call of the device failed in this step, and 93 if and only if one failed before it.
  pub cause : result ≡ Err faults.Device → old.device.failures < new.device.failures
  pub counted : OnOk result (new.device.failures ≡ old.device.failures)
  -- After a fault no failure is counted.
  pub stays : result ≡ Err faults.Failed → new.device.failures ≡ old.device.failures
  pub works : OnOk result (new.failed ≡ false)
  pub fails : OnErr result (new.failed ≡ true)

-- The same, and: if the facts about the device hold before a step, they hold after it, with the acknowledged commands
-- that follow.
pub record Called (old new : Running) (outcome : Result ⊤ Fault) (later : List Command → List Command) (call : List Asked) : Type 0 where
  pub keeps : (history : List Command) → Inside old history → Inside new (later history)
  pub since : LeavesBetween old new
  pub device : OnDevice old new outcome call

-- A call of an engine that keeps a machine. Afterwards it keeps the machine that the effect leaves, and the effect's
-- answers leave. An image that a crash may leave since the call began stands for what a stop may leave before the call
-- or after it.
pub record HasEffect (old new : Running) (effect : Machine → Effect) (leaving : List Answer) : Type 0 where
  pub keeps : (machine : Machine) → Keeps old machine → Keeps new (effect machine).machine
  pub answers : (machine : Machine) → Keeps old machine → leaving ≡ (effect machine).leaving
  pub since : (machine : Machine) → Keeps old machine → LeavesOnly old.device new.device (StandsEither machine (effect machine).machine)

-- A sync whose failure is reported.
pub record Synced (old new : Device) (after : Bool) (result : Result ⊤ Fault) : Type 0 where
  pub durable : OnOk result (Only old.seen new.may_leave)
  pub seen_still : new.seen ≡ old.seen
  pub crash : LeavesOnly old new old.may_leave
  pub call : MakesCall result (syncs ∷ []) old new
  pub told : MatchResult result (λ _. after ≡ false) (λ fault. (fault ≡ faults.Device) × (after ≡ true))
