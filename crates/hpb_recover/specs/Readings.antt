-- Readings of an image, in values alone, whether the image stands for a history or not.
use Rattle.std.specs.Prelude.{ℕ, suc, ◌+◌, ◌<◌, ◌≤◌, List, length}
use Rattle.hpb_rules.specs.declared.command.Command.{Command}
use Rattle.hpb_rules.specs.declared.saved.Saved.{Saved}
use Rattle.hpb_rules.specs.AuctionValue.{AuctionValue}
use Rattle.hpb_rules.specs.Values.{value_after}
use Rattle.hpb_rules.specs.AcceptedRuns.{AllAccepted}
use Rattle.hpb_rules.specs.Saved.{restored}
use Rattle.hpb_journal.specs.Layouts.{Layout}
use Rattle.hpb_journal.specs.Frames.{IsOwn, Kept}
use Rattle.hpb_rules.specs.Fronts.{joined}
use Rattle.hpb_slots.specs.declared.slot.Slot.{Slot}
use Rattle.hpb_slots.specs.Newest.{IsNewest}
use Rattle.hpb_codec.specs.declared.head.Head.{Head}
use Rattle.hpb_recover.specs.Heads.{IsFormatted, IsLaidOut, layout_of}

-- **Readings.** A reading consists of values alone: the head, the newest slot with its saved auction, and the batches
-- behind it. Each command of these is newly accepted after those before it. A reading is complete if no frame behind
-- the last batch is its batch's own.
--
-- The head, the newest slot, how many batches it covers, its saved auction, and the batches behind it.
pub record Found : Type 0 where
  pub head : Head
  pub slot : Slot
  pub covered : ℕ
  pub saved : Saved
  pub batches : List (List Command)

-- The layout of the frames.
abbrev pub layout_in : Found → Layout
layout_in found = layout_of found.head

-- The value of the checkpoint.
abbrev pub checkpoint : Found → AuctionValue
checkpoint found = restored found.head.definition found.saved

-- The index behind the last batch, and the value after that batch.
abbrev pub next_index : Found → ℕ
next_index found = found.covered + length found.batches

abbrev pub last_value : Found → AuctionValue
last_value found = value_after (checkpoint found) (joined found.batches)

-- The frames from the newest slot's index on spell these batches, numbered on, and each command is newly accepted.
pub record Reaches (found : Found) (image : List ℕ) : Type 0 where
  pub formatted : IsFormatted image
  pub laid : IsLaidOut found.head image
  pub newest : IsNewest found.head.definition found.slot found.covered found.saved image
  pub kept : Kept (layout_in found) found.head.definition found.covered (suc (checkpoint found).count) found.batches image
  pub accepted : AllAccepted (checkpoint found) (joined found.batches)

-- The frame behind them, or a later one, is open with its own index.
abbrev pub HasLater : Found → List ℕ → Type 0
HasLater found image = (b : ℕ) × (next_index found ≤ b) × (b < found.covered + (layout_in found).count) × IsOwn (layout_in found) b image

-- The reading is complete: nothing else is to be read.
pub record Reads (found : Found) (image : List ℕ) : Type 0 where
  pub reaches : Reaches found image
  pub ends : HasLater found image → ⊥
