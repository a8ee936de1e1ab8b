-- The last frame that is open with an index past the room of a checkpoint, found frame by frame.
use Rattle.std.proofs.Common.{◌≡◌, inl, inr, ℕ, suc, ◌+◌, ◌≤◌, List, Option, Some, None, subst, arith}
use Rattle.std.proofs.lemmas.Bool.{cases_lt}
use Rattle.hpb_journal.specs.Frames.{IsOwn, IsRead}
use Rattle.hpb_journal.specs.declared.frame.Frame.{Frame}
use Rattle.hpb_journal.specs.Layouts.{Layout}
use Rattle.hpb_recover.specs.Doubts.{IsToldTo, end_of_room}
use Rattle.hpb_recover.specs.Plans.{layout_in}
use Rattle.hpb_recover.specs.Replaying.{NoneIsOwn}
use Rattle.hpb_recover.specs.declared.doubts.Later.{Later}
use Rattle.hpb_recover.specs.declared.plan.Plan.{Plan}

-- One more frame that isn't open with its own index.
one_more : (layout : Layout) (image : List ℕ) (start end : ℕ) → NoneIsOwn layout start end image → (IsOwn layout end image → ⊥) → NoneIsOwn layout start (end + 1) image
one_more layout image start end none not b from before own = elim (cases_lt b end) [
  | inl less ↦ none b from less own
  | inr ge ↦ let here : b ≡ end = omega (arith, before, ge) in not (subst (λ (i : ℕ). IsOwn layout i image) here own)
]

module _ (plan : Plan) (image : List ℕ) (index : ℕ) where
  pub kept_on : (later : Option Later) → IsToldTo plan image index later → (IsOwn (layout_in plan) index image → ⊥) → IsToldTo plan image (index + 1) later
  kept_on None told not = one_more (layout_in plan) image (end_of_room plan) index told not
  kept_on (Some later) told not = record {
    past = told.past;
    before = omega (arith, told.before);
    own = told.own;
    told = told.told;
    last = one_more (layout_in plan) image (suc later.index) index told.last not;
  }

  pub latest : (frame : Frame) → end_of_room plan ≤ index → IsRead (layout_in plan) plan.auction.rules index image frame → IsOwn (layout_in plan) index image
      → IsToldTo plan image (index + 1) (Some (record { index = index; frame = frame }))
  latest frame past read own = record {
    past = past;
    before = omega arith;
    own = own;
    told = read;
    last = λ b from before own. absurd (omega (arith, from, before));
  }
