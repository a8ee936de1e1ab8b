-- The flaws for which an image is refused.
use Rattle.std.specs.Prelude.{ℕ, suc, List}
use Rattle.hpb_rules.specs.declared.command.Command.{Command}
use Rattle.hpb_rules.specs.AcceptedRuns.{AllAccepted}
use Rattle.hpb_rules.specs.declared.refusal.Refusal.{Refusal}
use Rattle.hpb_rules.specs.declared.refusal.Refusal.TheVariants as refusals
use Rattle.hpb_journal.specs.Frames.{IsFrame}
use Rattle.hpb_recover.specs.declared.flaw.Flaw.{Flaw}
use Rattle.hpb_recover.specs.declared.flaw.Flaw.TheVariants as flaws
use Rattle.hpb_slots.specs.Newest.{IsWithout}
use Rattle.hpb_codec.specs.declared.head.Head.{Head}
use Rattle.hpb_recover.specs.Heads.{IsFormatted, IsLaidOut}
use Rattle.hpb_recover.specs.Readings.{Found, Reaches, HasLater, layout_in, next_index, last_value}

-- **Flaws.** An image is refused for one of four flaws. It isn't that of a formatted device (40). It isn't laid out
-- (42). No slot holds a state (44). Reading stops, though that frame or a later one is its batch's own (45).
--
-- The frame after the last batch spells none that continues with it.
abbrev pub Stops : Found → List ℕ → Type 0
Stops found image = (commands : List Command) → IsFrame (layout_in found) found.head.definition (next_index found) (suc (last_value found).count) commands image
    → AllAccepted (last_value found) commands → ⊥

-- Reading stops, though that frame or a later one is open with its own index.
pub record IsDamaged (found : Found) (image : List ℕ) : Type 0 where
  pub reaches : Reaches found image
  pub stops : Stops found image
  pub later : HasLater found image

-- An image has a flaw.
abbrev pub HasFlaw : Flaw → List ℕ → Type 0
-- it isn't that of a formatted device
HasFlaw flaws.Unformatted image = IsFormatted image → ⊥
-- it is, but its first three pages spell no head, or it doesn't have the length for the head's layout
HasFlaw flaws.Layout image = IsFormatted image × ((head : Head) → IsLaidOut head image → ⊥)
-- it is laid out, but no slot is open with a body that spells a state
HasFlaw flaws.Checkpoint image = IsFormatted image × (head : Head) × IsLaidOut head image × IsWithout head.definition image
-- it has a checkpoint, but a frame after it is damaged
HasFlaw flaws.Frame image = (found : Found) × IsDamaged found image

-- The refusal that reports a flaw.
abbrev pub refusal_of : Flaw → Refusal
refusal_of flaws.Unformatted = refusals.Unformatted
refusal_of flaws.Layout = refusals.Layout
refusal_of flaws.Checkpoint = refusals.Checkpoint
refusal_of flaws.Frame = refusals.Frame
