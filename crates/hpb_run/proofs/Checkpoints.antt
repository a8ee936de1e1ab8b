-- The results of steps of a checkpoint.
use Rattle.std.proofs.Common.{◌≡◌, ◌⊎◌, ⊎_elim, subst, ℕ, ◌+◌, ◌<◌, ◌≤◌, false, None, Ok, length, refl, arith}
use Rattle.std.specs.Prelude.{if◌then◌else◌}
use Rattle.std.proofs.lemmas.Bool.Decides.{nat_tests}
use Rattle.std.proofs.lemmas.Grind.{common_steps}
use Rattle.hpb_disk.specs.declared.disk.Disk.{Ghosts}
use Rattle.hpb_engine.specs.declared.engine.Engine.{Engine}
use Rattle.hpb_engine.specs.declared.progress.Progress.{Progress}
use Rattle.hpb_engine.specs.Numbers.{IsSafe, count_of}
use Rattle.hpb_engine.specs.declared.step.Part.{Part}
use Rattle.hpb_engine.specs.declared.step.Rest.{Rest}
use Rattle.hpb_engine.specs.declared.step.Rest.TheVariants as rests
use Rattle.hpb_engine.specs.Asking.{step_asks}
use Rattle.hpb_engine.specs.Checkpoints.{CheckpointLeads, IsSettled, SameCore, StepLeads, aim, step_calls, steps_left}
use Rattle.hpb_run.specs.Batches.{IsBetween, MakesCheckpoint, moment_of}

-- **The numbers of a progress.** A step makes at most one call.
few_calls : (s : Progress) → step_calls s ≤ 1
few_calls s = grind (arith, nat_tests)

-- The next checkpoint is to cover all.
aims_at_all : (s : Progress) → IsBetween s → aim s ≡ s.window.next
aims_at_all s between = grind (arith, nat_tests, between.begun, between.retiring)

module _ (s : Progress) (safe : IsSafe s) where
  -- The batches that a checkpoint is to cover leave a clean frame.
  room_behind : s.window.next < aim s + count_of s.window
  room_behind = grind (arith, nat_tests, safe.window.least, safe.window.end, safe.window.clean, safe.checkpoint.new, safe.retirement.some)

  -- No step is left if all batches are covered and all other frames clean. A call belongs to a step that is left.
  none_left : IsSettled s → steps_left s ≡ 0
  none_left at = grind (arith, nat_tests, at.begun, at.retiring, at.covered, at.clean, safe.retirement.idle at.retiring)

  calls_left : step_calls s ≤ steps_left s
  calls_left = grind (arith, nat_tests, safe.checkpoint.steps, safe.retirement.idle, safe.window.end)

-- **Steps**, none of which was the last one.
pub record Goes (s t : Progress) (before now : ℕ) : Type 0 where
  pub same : SameCore s t
  pub aim : aim t ≡ aim s
  pub least : before ≤ now
  pub most : now + steps_left t ≤ before + steps_left s
  pub still : IsSettled s → (t ≡ s) × (now ≡ before)

-- None yet.
pub goes_self : (s : Progress) (now : ℕ) → Goes s s now now
goes_self s now = record { same = record { committed = refl; commit = refl; next = refl; frames = refl }; aim = refl; least = omega arith; most = omega arith; still = λ at. (refl, refl) }

-- One more: it is such a step too, or there was none left, or it is the last one.
module _ {D : Type 0} {disk : Ghosts D} (old now new : Engine D disk) (works : now.failed ≡ false) (goes : Goes old.progress now.progress (moment_of old) (moment_of now)) (safe : IsSafe now.progress)
    (same : SameCore now.progress new.progress) (calls : moment_of new ≡ moment_of now + (if now.failed then 0 else length (step_asks now.progress))) where
  call : moment_of new ≡ moment_of now + step_calls now.progress
  call = rw works at calls

  pub goes_on : (part : Part) → StepLeads (Ok (rests.Went part)) now.progress new.progress → Goes old.progress new.progress (moment_of old) (moment_of new)
  goes_on part leads = grind (arith, common_steps, few_calls now.progress, none_left now.progress safe, call)

  made_before : new.failed ≡ false → StepLeads (Ok rests.Idle) now.progress new.progress → MakesCheckpoint old new None
  made_before stays leads = grind (arith, common_steps, calls_left now.progress safe, none_left now.progress safe, room_behind now.progress safe, aims_at_all old.progress, call)

  made_now : new.failed ≡ false → StepLeads (Ok rests.Whole) now.progress new.progress → MakesCheckpoint old new None
  made_now stays leads = grind (arith, common_steps, calls_left now.progress safe, none_left now.progress safe, room_behind now.progress safe, aims_at_all old.progress, call)

  -- The step that was last leaves none behind it: a checkpoint is made.
  pub ended : {rest : Rest} → (rest ≡ rests.Idle) ⊎ (rest ≡ rests.Whole) → new.failed ≡ false → CheckpointLeads now.failed (Ok rest) now.progress new.progress → MakesCheckpoint old new None
  ended {rest} ends stays leads =
      let leads_on : CheckpointLeads false (Ok rest) now.progress new.progress = rw works at leads in
      ⊎_elim
      (λ (idle : rest ≡ rests.Idle). made_before stays (subst (λ (r : Rest). StepLeads (Ok r) now.progress new.progress) idle leads_on.0))
      (λ (whole : rest ≡ rests.Whole). made_now stays (subst (λ (r : Rest). StepLeads (Ok r) now.progress new.progress) whole leads_on.0))
      ends
