-- The checkpoint that a device was found to have.
use Rattle.std.specs.Prelude.{◌≡◌, ◌↔◌, ℕ, ◌<◌, ◌≤◌, List, IsTrue}
use Rattle.hpb_rules.specs.declared.limits.TheConstants.{MOST_COMMANDS}
use Rattle.hpb_rules.specs.declared.saved.Saved.{Saved}
use Rattle.hpb_rules.specs.Tree.{Rules}
use Rattle.hpb_rules.specs.AuctionValue.{AuctionValue}
use Rattle.hpb_rules.specs.Saved.{restored}
use Rattle.hpb_disk.specs.Device.{Device}
use Rattle.hpb_recover.specs.declared.flaw.Flaw.TheVariants as flaws
use Rattle.hpb_slots.specs.declared.newest.Newest.{Newest}
use Rattle.hpb_slots.specs.Slots.{IsOpen, other_of}
use Rattle.hpb_slots.specs.Newest.{IsNewest, IsWithout}
use Rattle.hpb_recover.specs.declared.cause.Cause.{Cause}
use Rattle.hpb_recover.specs.declared.cause.Cause.TheVariants as causes

-- The slot is the newest, the auction is the one that it saves, and whether the gate of the other slot is open is
-- known.
pub record IsCheckpoint (rules : Rules) (found : Newest) (auction : AuctionValue) (image : List ℕ) : Type 0 where
  pub saved : Saved
  pub newest : IsNewest rules found.slot found.index saved image
  pub value : auction ≡ restored rules saved
  pub covered : found.index ≤ MOST_COMMANDS
  pub other : IsTrue found.other_open ↔ IsOpen (other_of found.slot) image

-- There is no checkpoint, or the machine failed.
abbrev pub IsUnlessWithout : (rules : Rules) (old new : Device) → Cause → Type 0
IsUnlessWithout rules old new (causes.Flawed flaw) = (flaw ≡ flaws.Checkpoint) × IsWithout rules old.seen
IsUnlessWithout rules old new causes.Memory = Unit {0}
IsUnlessWithout rules old new causes.Device = old.failures < new.failures
