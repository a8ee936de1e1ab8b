-- The contents of the frames of an image.
use Rattle.std.specs.Prelude.{◌≡◌, ◌≢◌, ℕ, suc, ◌+◌, List, [], ◌∷◌, None, length, ◌<◌}
use Rattle.std.specs.List.{AllByRecursion}
use Rattle.hpb_rules.specs.Tree.{Rules}
use Rattle.hpb_rules.specs.Rounds.{HasTicket}
use Rattle.hpb_rules.specs.Answer.{unknown}
use Rattle.hpb_rules.specs.declared.command.Command.{Command}
use Rattle.hpb_codec.specs.declared.batch.Batch.{Batch}
use Rattle.hpb_disk.specs.Gates.{open_byte}
use Rattle.hpb_journal.specs.declared.frame.Frame.{Frame}
use Rattle.hpb_journal.specs.declared.frame.Frame.TheVariants as frames
use Rattle.hpb_journal.specs.Layouts.{Layout}

-- A batch may be kept under a definition: it has at least one command, and each has a ticket, and a bidder and a node
-- of the definition.
pub record MayBeKept (rules : Rules) (batch : Batch) : Type 0 where
  pub some : 0 < length batch.commands
  pub tickets : AllByRecursion HasTicket batch.commands
  pub known : AllByRecursion (λ command. unknown rules command ≡ None) batch.commands

-- **The journal.** A frame is a batch's own if its gate is open and its body has the batch's index. From an index on a
-- journal contains a list of batches if the frame of each is open and spells it, with its commands numbered on.
--
-- The gate of the frame is open.
abbrev pub IsOpen : Layout → ℕ → List ℕ → Type 0
IsOpen layout b image = layout.gate b image ≡ open_byte

-- The gate of the frame has any other value.
abbrev pub IsClosed : Layout → ℕ → List ℕ → Type 0
IsClosed layout b image = layout.gate b image ≢ open_byte

-- The body of the batch's frame has the batch's index.
abbrev pub HasIndex : Layout → ℕ → List ℕ → Type 0
HasIndex layout b image = layout.index (layout.body b image) ≡ b

-- The body of the batch's frame spells the batch.
abbrev pub Says : Layout → Rules → Batch → List ℕ → Type 0
Says layout rules batch image = layout.spells rules (layout.body batch.index image) batch

-- The frame is open with this index.
abbrev pub IsOwn : Layout → ℕ → List ℕ → Type 0
IsOwn layout b image = IsOpen layout b image × HasIndex layout b image

-- The batch with this index and these commands, numbered from this number on.
abbrev pub batch_at : ℕ → ℕ → List Command → Batch
batch_at index first commands = record { index = index; first = first; commands = commands }

-- The frame is open and spells these commands.
abbrev pub IsFrame : Layout → Rules → ℕ → ℕ → List Command → List ℕ → Type 0
IsFrame layout rules b first commands image = IsOpen layout b image × Says layout rules (batch_at b first commands) image

-- The contents of a journal: from an index on, the frames spell these batches in order, with their commands numbered on
-- from a number.
abbrev pub Kept : Layout → Rules → ℕ → ℕ → List (List Command) → List ℕ → Type 0
Kept layout rules index first [] image = Unit {0}
Kept layout rules index first (commands ∷ batches) image =
    IsFrame layout rules index first commands image × Kept layout rules (suc index) (first + length commands) batches image

-- A reader's answer about a frame is right:
abbrev pub IsRead : Layout → Rules → ℕ → List ℕ → Frame → Type 0
-- the gate isn't open
IsRead layout rules b image frames.Closed = IsClosed layout b image
-- it is open with another index
IsRead layout rules b image frames.Other = IsOpen layout b image × (HasIndex layout b image → ⊥)
-- it is open with this index and spells the batch
IsRead layout rules b image (frames.Batch batch) = (batch.index ≡ b) × IsFrame layout rules b batch.first batch.commands image
-- it is open with this index and spells none
IsRead layout rules b image frames.Damaged = IsOwn layout b image × ((first : ℕ) (commands : List Command) → IsFrame layout rules b first commands image → ⊥)
