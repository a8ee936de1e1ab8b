-- The result of a step of a checkpoint, in numbers of batches and of steps.
use Rattle.std.specs.Prelude.{◌≡◌, ℕ, suc, ◌+◌, ◌-◌, ◌≤◌, ◌==◌, nat_le, Bool, true, false, ◌&&◌, ◌||◌, length, Result, Ok, Err, if◌then◌else◌}
use Rattle.hpb_engine.specs.declared.progress.Progress.{Progress}
use Rattle.hpb_engine.specs.Asking.{step_asks}
use Rattle.hpb_engine.specs.Numbers.{count_of, end_of}
use Rattle.hpb_engine.specs.declared.step.Fault.{Fault}
use Rattle.hpb_engine.specs.declared.step.Fault.TheVariants as faults
use Rattle.hpb_engine.specs.declared.step.Part.{Part}
use Rattle.hpb_engine.specs.declared.step.Part.TheVariants as parts
use Rattle.hpb_engine.specs.declared.step.Rest.{Rest}
use Rattle.hpb_engine.specs.declared.step.Rest.TheVariants as rests

-- **Steps of a checkpoint.** The commands don't change. A checkpoint aims at all batches that are committed at its
-- first step. Nine steps write its state. Then each frame that it frees takes one step; if there are any, a sync is the
-- last. A step is idle if and only if all batches are covered and all other frames are clean.
--
-- The acknowledged commands and the batch in flight are the same.
pub record SameCore (s t : Progress) : Type 0 where
  pub committed : t.committed ≡ s.committed
  pub commit : t.commit ≡ s.commit
  pub next : t.window.next ≡ s.window.next
  pub frames : t.window.frames ≡ s.window.frames

-- Nothing is left to do: no checkpoint is begun, the newest one covers all batches, and all other frames are clean.
pub record IsSettled (s : Progress) : Type 0 where
  pub begun : s.checkpoint.steps ≡ 0
  pub retiring : s.retirement.going ≡ false
  pub covered : s.window.covered ≡ s.window.next
  pub clean : s.window.clean_end ≡ end_of s.window

-- How many batches the checkpoint on its way covers; without one, how many the next would cover.
abbrev pub aim : Progress → ℕ
aim s = if s.retirement.going then s.window.covered else (if s.checkpoint.steps == 0 then s.window.next else s.checkpoint.covers)

-- How many frames it has yet to retire.
abbrev pub to_retire : Progress → ℕ
to_retire s = aim s + count_of s.window - s.retirement.upto

-- How many steps are left up to the last one: nine for the state, one for each frame to retire, and a sync. None if all
-- batches are covered and all other frames are clean.
abbrev pub steps_left : Progress → ℕ
steps_left s =
    if s.retirement.going then suc (to_retire s) else
    (if (s.checkpoint.steps == 0) && (s.window.covered == s.window.next) then (if to_retire s == 0 then 0 else suc (to_retire s)) else 10 - s.checkpoint.steps + to_retire s)

-- The part that the next step does.
abbrev pub part_of : Progress → Part
part_of s =
    if nat_le 2 s.checkpoint.steps && nat_le s.checkpoint.steps 5 then parts.Chunk (s.checkpoint.steps - 2) else
    (if (s.checkpoint.steps == 0) && (s.retirement.going || (s.window.covered == s.window.next)) then parts.Retired else parts.Other)

-- What a step changes, by its result.
abbrev pub StepLeads : Result Rest Fault → Progress → Progress → Type 0
StepLeads (Ok rests.Idle) s t = IsSettled s × (t ≡ s)
-- one of the steps that are left, which isn't the last one
StepLeads (Ok (rests.Went part)) s t = (part ≡ part_of s) × (steps_left s ≡ suc (steps_left t)) × (1 ≤ steps_left t) × (aim t ≡ aim s)
-- the last one: the newest checkpoint covers all that it aimed at, and all other frames are clean
StepLeads (Ok rests.Whole) s t = (steps_left s ≡ 1) × (t.window.covered ≡ aim s) × (t.window.clean_end ≡ end_of t.window) × (t.checkpoint.steps ≡ 0) × (t.retirement.going ≡ false)
StepLeads (Err fault) s t = IsSettled s → ⊥

-- The same, after a fault too: then no step is made.
abbrev pub CheckpointLeads : (failed : Bool) → Result Rest Fault → Progress → Progress → Type 0
CheckpointLeads true result s t = (result ≡ Err faults.Failed) × (t ≡ s)
CheckpointLeads false result s t = StepLeads result s t × (result ≡ Err faults.Failed → ⊥)

-- How many calls of the device a step makes: none if nothing is left to do, none for a gate that is closed already, and
-- otherwise one.
abbrev pub step_calls : Progress → ℕ
step_calls s = length (step_asks s)

-- The same, after a fault too: then it makes none.
abbrev pub checkpoint_calls : (failed : Bool) → Progress → ℕ
checkpoint_calls failed s = if failed then 0 else step_calls s
