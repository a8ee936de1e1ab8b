-- Runs of calls during which a crash leaves only images of one set: how they begin and go on.
use Rattle.std.proofs.Common.{inl, inr, ⊎_elim, ℕ, List, refl, ◌∙◌, arith}
use Rattle.hpb_disk.specs.Device.{Device, IsUnchanged, LeavesOnly}
use Rattle.hpb_disk.specs.Images.{Within}

-- A run of no calls.
pub leaves_at_first : (old : Device) (images : List ℕ → Type 0) → Within old.may_leave images → LeavesOnly old old images
leaves_at_first old images within = record {
  later = omega arith;
  nothing_else = λ moment image le was. inl was;
  keeps = λ moment image le was. was;
  after = within;
}

-- A run followed by a run.
pub leaves_join : {old middle new : Device} {images : List ℕ → Type 0} → LeavesOnly old middle images → LeavesOnly middle new images → LeavesOnly old new images
leaves_join first second = record {
  later = omega (arith, first.later, second.later);
  nothing_else = λ moment image le is. ⊎_elim (λ was. first.nothing_else moment image le was) (λ new. inr new) (second.nothing_else moment image (omega (arith, le, first.later)) is);
  keeps = λ moment image le was. second.keeps moment image (omega (arith, le, first.later)) (first.keeps moment image le was);
  after = second.after;
}

-- A run that leaves images of a set also leaves images of a greater set.
pub leaves_within : {old new : Device} {during images : List ℕ → Type 0} → Within during images → LeavesOnly old new during → LeavesOnly old new images
leaves_within within run = record {
  later = run.later;
  nothing_else = λ moment image le is. ⊎_elim (λ was. inl was) (λ new. inr (within image new)) (run.nothing_else moment image le is);
  keeps = run.keeps;
  after = λ image may. within image (run.after image may);
}

-- Calls that change no byte, followed by others that change none.
pub unchanged_join : {old middle new : Device} → IsUnchanged old middle → IsUnchanged middle new → IsUnchanged old new
unchanged_join {old = old} first second = record {
  seen = second.seen ∙ first.seen;
  leaves = leaves_join first.leaves (leaves_within first.leaves.after second.leaves);
  kept = λ image may. second.kept image (first.kept image may);
}
