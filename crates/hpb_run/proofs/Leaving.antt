-- The images that a crash may leave during a commit of letters and during a checkpoint.
use Rattle.std.proofs.Common.{inl, inr, ⊎_elim, ℕ, suc, zero, ◌≤◌, List, ◌++◌, Result, Ok, Err, subst, arith}
use Rattle.hpb_rules.specs.declared.command.Command.{Command}
use Rattle.hpb_rules.specs.declared.letter.Answer.{Answer}
use Rattle.hpb_rules.specs.Letters.{new_commands}
use Rattle.hpb_rules.specs.Machine.{at_rest, in_flight}
use Rattle.hpb_disk.specs.Device.{Device, LeavesOnly}
use Rattle.hpb_disk.specs.Images.{Within}
use Rattle.hpb_disk.proofs.Runs.{leaves_at_first, leaves_within}
use Rattle.hpb_recover.specs.Standing.{Stands}
use Rattle.hpb_engine.specs.declared.step.Fault.{Fault}
use Rattle.hpb_engine.specs.declared.step.Fault.TheVariants as faults
use Rattle.hpb_engine.specs.declared.step.Step.{Step}
use Rattle.hpb_engine.specs.Keeping.{StandsEither, StandsFor}
use Rattle.hpb_engine.specs.Steps.{turn_by}
use Rattle.hpb_run.specs.Batches.{IsAllOrNone}

-- With nothing in flight a stop leaves the acknowledged commands.
pub stands_alone : (history : List Command) (image : List ℕ) → StandsFor (at_rest history) image → Stands history image
stands_alone history image it = subst (λ (l : List Command). Stands l image) it.1 it.2

module _ (history : List Command) (given : List Answer) where
  rest_leaves : (image : List ℕ) → StandsFor (at_rest history) image → IsAllOrNone history given image
  rest_leaves image it = inl (stands_alone history image it)

  all_leaves : (image : List ℕ) → StandsFor (at_rest (history ++ new_commands given)) image → IsAllOrNone history given image
  all_leaves image it = inr (stands_alone (history ++ new_commands given) image it)

  flight_leaves : (turns : ℕ) (image : List ℕ) → StandsFor (in_flight history given turns) image → IsAllOrNone history given image
  flight_leaves turns image it = ⊎_elim (λ same. inl (subst (λ (l : List Command). Stands l image) same it.2)) (λ landed. inr (subst (λ (l : List Command). Stands l image) landed.1 it.2)) it.1

  turn_leaves : (result : Result Step Fault) (turns : ℕ) → turns ≤ 3 → (image : List ℕ) → StandsFor (turn_by result (in_flight history given turns)).machine image → IsAllOrNone history given image
  turn_leaves (Ok step) zero few = flight_leaves 1
  turn_leaves (Ok step) (suc zero) few = flight_leaves 2
  turn_leaves (Ok step) (suc (suc zero)) few = flight_leaves 3
  turn_leaves (Ok step) (suc (suc (suc zero))) few = all_leaves
  turn_leaves (Ok step) (suc (suc (suc (suc turns)))) few = absurd (omega (arith, few))
  turn_leaves (Err faults.Device) zero few = flight_leaves 0
  turn_leaves (Err faults.Device) (suc zero) few = flight_leaves 1
  turn_leaves (Err faults.Device) (suc (suc zero)) few = flight_leaves 3
  turn_leaves (Err faults.Device) (suc (suc (suc zero))) few = flight_leaves 3
  turn_leaves (Err faults.Device) (suc (suc (suc (suc turns)))) few = absurd (omega (arith, few))
  turn_leaves (Err faults.Failed) turns few = flight_leaves turns

  -- No call was made.
  pub none_left : (device : Device) → Within device.may_leave (StandsFor (at_rest history)) → LeavesOnly device device (IsAllOrNone history given)
  none_left device each = leaves_at_first device (IsAllOrNone history given) (λ image left. rest_leaves image (each image left))

  -- The calls of a checkpoint.
  pub rested : {old new : Device} → LeavesOnly old new (StandsFor (at_rest history)) → LeavesOnly old new (IsAllOrNone history given)
  rested = leaves_within rest_leaves

  -- The call of a turn.
  pub turned : {old new : Device} (result : Result Step Fault) (turns : ℕ) → turns ≤ 3
      → LeavesOnly old new (StandsEither (in_flight history given turns) (turn_by result (in_flight history given turns)).machine) → LeavesOnly old new (IsAllOrNone history given)
  turned result turns few = leaves_within (λ image either. ⊎_elim (flight_leaves turns image) (turn_leaves result turns few image) either)
