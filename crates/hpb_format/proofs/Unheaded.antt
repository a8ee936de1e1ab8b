-- While a device is formatted, each image is either not headed or complete.
use Rattle.std.proofs.Common.{inl, inr, ⊎_elim, ℕ, List, refl, sym, ◌∙◌, subst}
use Rattle.hpb_disk.proofs.Runs.{leaves_join, leaves_within}
use Rattle.hpb_disk.specs.Device.{Device, IsSettled, LeavesOnly}
use Rattle.hpb_disk.specs.Gates.{HasClosedGate}
use Rattle.hpb_disk.specs.Laws.{OpenOrClosed}
use Rattle.hpb_journal.specs.Layouts.{Layout}
use Rattle.hpb_recover.specs.Heads.{IsHeaded}
use Rattle.hpb_format.specs.Stages.{HasHeadOf, IsClosedOrMade, IsUnheadedOrMade, OnlyCloses, StaysClosed}
use Rattle.hpb_format.specs.declared.place.TheConstants.{HEAD_GATE}

-- If the first image isn't headed, no image with the same head is.
unheaded : OpenOrClosed → (first image : List ℕ) → (IsHeaded first → ⊥) → HasHeadOf first image → IsHeaded image → ⊥
unheaded either first image not has headed = ⊎_elim
    (λ is_open. not (record { gate = is_open; known = sym has.magic ∙ headed.known }))
    (λ closed. has.gate closed headed.gate)
    (either HEAD_GATE first)

module _ (layout : Layout) (head state : List ℕ) where
  pub unheaded_closing : {old new : Device} → OpenOrClosed → OnlyCloses old new → IsSettled old → (IsHeaded old.seen → ⊥) → LeavesOnly old new (IsUnheadedOrMade layout head state)
  unheaded_closing {old = old} either closes settled not =
      leaves_within (λ image has. inl (unheaded either old.seen image not has))
      (closes old.seen (λ image left. subst (HasHeadOf old.seen) (sym (settled image left)) (record { magic = refl; gate = λ closed. closed })))

  unheaded_behind : {old new : Device} → StaysClosed old new → IsSettled old → HasClosedGate HEAD_GATE old.seen → LeavesOnly old new (IsUnheadedOrMade layout head state)
  unheaded_behind stays settled closed =
      leaves_within (λ image is. inl (λ headed. is headed.gate)) (stays (λ image left. subst (HasClosedGate HEAD_GATE) (sym (settled image left)) closed))

  pub unheaded_opening : {old new : Device} → LeavesOnly old new (IsClosedOrMade layout head state) → LeavesOnly old new (IsUnheadedOrMade layout head state)
  unheaded_opening = leaves_within (λ image is. ⊎_elim (λ closed. inl (λ headed. closed headed.gate)) (λ made. inr made) is)

  -- First gates are closed, and then the bytes behind the head's gate are written.
  pub behind_closing : {old middle new : Device} → OpenOrClosed → OnlyCloses old middle → IsSettled old → (IsHeaded old.seen → ⊥) → StaysClosed middle new → IsSettled middle → HasClosedGate HEAD_GATE middle.seen
      → LeavesOnly old new (IsUnheadedOrMade layout head state)
  behind_closing either closes settled not stays again closed = leaves_join (unheaded_closing either closes settled not) (unheaded_behind stays again closed)
