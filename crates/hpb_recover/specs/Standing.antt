-- What an image of a device stands for. Source: this project's own.
use Rattle.std.specs.Prelude.{◌≡◌, ℕ, suc, ◌+◌, ◌<◌, ◌≤◌, List, ◌++◌, length}
use Rattle.hpb_rules.specs.declared.command.Command.{Command}
use Rattle.hpb_rules.specs.declared.saved.Saved.{Saved}
use Rattle.hpb_rules.specs.Answer.{IsHistory}
use Rattle.hpb_rules.specs.AuctionValue.{Shows}
use Rattle.hpb_rules.specs.Saved.{restored}
use Rattle.hpb_journal.specs.Frames.{IsOwn, Kept}
use Rattle.hpb_rules.specs.Fronts.{joined}
use Rattle.hpb_slots.specs.declared.slot.Slot.{Slot}
use Rattle.hpb_slots.specs.Newest.{IsNewest}
use Rattle.hpb_codec.specs.declared.head.Head.{Head}
use Rattle.hpb_recover.specs.Heads.{IsFormatted, IsLaidOut, layout_of}

-- **Stands.** An image stands for a list of commands under two conditions. The newest slot shows a front of the list.
-- The frames from the slot's index on spell the rest, batch by batch, up to a frame that isn't open with its own index;
-- no later frame is either.
pub record Stands (history : List Command) (image : List ℕ) : Type 0 where
  -- The image is that of a formatted device, with the length for its layout.
  pub formatted : IsFormatted image
  pub head : Head
  pub laid : IsLaidOut head image
  -- The list is a history under its definition.
  pub allowed : IsHistory head.definition history
  -- The newest slot covers this many batches, and shows a front of the list.
  pub slot : Slot
  pub covered : ℕ
  pub saved : Saved
  pub newest : IsNewest head.definition slot covered saved image
  pub before : List Command
  pub shows : Shows (restored head.definition saved) before
  -- The frames from there on spell these batches, numbered on, whose commands are the rest of the list.
  pub batches : List (List Command)
  pub cuts : history ≡ before ++ joined batches
  pub kept : Kept (layout_of head) head.definition covered (suc (length before)) batches image
  -- No frame behind them is open with its own index.
  pub ends : (b : ℕ) → covered + length batches ≤ b → b < covered + (layout_of head).count → IsOwn (layout_of head) b image → ⊥
