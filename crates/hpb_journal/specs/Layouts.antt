-- A layout: the places of a journal's frames on a device, and the meaning of their bytes.
use Rattle.std.specs.Prelude.{◌≡◌, ◌≢◌, ℕ, ◌%◌, ◌≤◌, List}
use Rattle.hpb_rules.specs.Tree.{Rules}
use Rattle.hpb_codec.specs.declared.batch.Batch.{Batch}
use Rattle.hpb_codec.specs.Batches.{IsBatch}
use Rattle.hpb_disk.specs.Images.{SameFrom}
use Rattle.hpb_codec.specs.declared.layout.TheConstants.{LEAST_FRAMES, MOST_FRAMES}
use Rattle.hpb_journal.specs.declared.limits.TheConstants.{JOURNAL_AT}

-- **Layouts.** `hpb_journal/specs`. A layout gives the places of a journal's frames, and the meaning of their bytes. A
-- frame serves many batches, one after another: two batches whose indexes are equal modulo the number of frames have
-- the same frame. A layout has these parts: `count` is the number of frames, and `size` the number of bytes of a
-- device. `gate` and `body` are the bytes of a batch's frame in an image. `index` is the index that a body has, whether
-- it spells a batch or not. `spells` says that a body spells a batch under a definition.
--
-- The frame of a batch is named by the batch's index: a frame serves many batches, one after another.
pub record Layout : Type 1 where
  -- how many frames there are, and how many bytes a device has
  pub count : ℕ
  pub size : ℕ
  -- the bytes of a frame's gate, and those of its body, in an image
  pub gate : ℕ → List ℕ → List ℕ
  pub body : ℕ → List ℕ → List ℕ
  -- the index that a body has, whether it spells a batch or not
  pub index : List ℕ → ℕ
  -- that a body spells a batch under a definition
  pub spells : Rules → List ℕ → Batch → Type 0

-- Two batches have different frames.
abbrev pub AreApart : Layout → ℕ → ℕ → Type 0
AreApart layout b other = b % layout.count ≢ other % layout.count

-- The frame of a batch has the same bytes in both images.
pub record SameFrame (layout : Layout) (b : ℕ) (old new : List ℕ) : Type 0 where
  pub gate : layout.gate b new ≡ layout.gate b old
  pub body : layout.body b new ≡ layout.body b old

-- The properties of each layout.
pub record IsLayout (layout : Layout) : Type 0 where
  pub least : LEAST_FRAMES ≤ layout.count
  pub most : layout.count ≤ MOST_FRAMES
  -- Before the frames there is room for the head and the slots, and the frames don't reach into it.
  pub room : JOURNAL_AT ≤ layout.size
  pub behind : (b : ℕ) (old new : List ℕ) → SameFrom JOURNAL_AT old new → SameFrame layout b old new
  -- Batches whose indexes are equal modulo the number of frames have the same frame.
  pub shared : (b other : ℕ) (image : List ℕ) → b % layout.count ≡ other % layout.count
      → (layout.gate b image ≡ layout.gate other image) × (layout.body b image ≡ layout.body other image)
  -- A body spells at most one batch, and has that batch's index.
  pub one : (rules : Rules) (bytes : List ℕ) (batch other : Batch) → layout.spells rules bytes batch → layout.spells rules bytes other → batch ≡ other
  pub indexed : (rules : Rules) (bytes : List ℕ) (batch : Batch) → layout.spells rules bytes batch → layout.index bytes ≡ batch.index
  pub is_batch : (rules : Rules) (bytes : List ℕ) (batch : Batch) → layout.spells rules bytes batch → IsBatch rules batch
