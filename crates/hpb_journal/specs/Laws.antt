-- The laws of a journal.
use Rattle.std.specs.Prelude.{◌≡◌, ◌⊎◌, ◌↔◌, ℕ, ◌+◌, ◌<◌, ◌≤◌, List, [], ◌∷◌, ◌++◌, length}
use Rattle.hpb_rules.specs.Tree.{Rules}
use Rattle.hpb_rules.specs.declared.command.Command.{Command}
use Rattle.hpb_journal.specs.Layouts.{Layout, AreApart, SameFrame}
use Rattle.hpb_journal.specs.Frames.{IsOpen, IsClosed, IsOwn, IsFrame, Kept}
use Rattle.hpb_rules.specs.Fronts.{joined}
use Rattle.hpb_journal.specs.Changes.{ChangesBody}

-- Both images contain the same batches, and the same frames are open with their index.
pub record ShowsTheSame (layout : Layout) (old new : List ℕ) : Type 0 where
  pub kept : (rules : Rules) (index first : ℕ) (batches : List (List Command)) → Kept layout rules index first batches old ↔ Kept layout rules index first batches new
  pub own : (b : ℕ) → IsOwn layout b old ↔ IsOwn layout b new

-- Each frame is open or closed.
abbrev pub OpenOrClosed : Layout → Type 0
OpenOrClosed layout = (b : ℕ) (image : List ℕ) → IsOpen layout b image ⊎ IsClosed layout b image

-- Batches whose indexes differ by less than the number of frames have different frames.
abbrev pub NearAreApart : Layout → Type 0
NearAreApart layout = (b other : ℕ) → b < other → other < b + layout.count → AreApart layout b other × AreApart layout other b

-- A torn body shows nothing behind a closed gate.
abbrev pub ClosedShowsNothing : Layout → Type 0
ClosedShowsNothing layout = (b : ℕ) (old new : List ℕ) → IsClosed layout b old → ChangesBody layout b old new → ShowsTheSame layout old new

-- If the frames of kept batches stay, the batches stay kept.
abbrev pub KeptStays : Layout → Type 0
KeptStays layout = (rules : Rules) (index first : ℕ) (batches : List (List Command)) (old new : List ℕ)
    → ((b : ℕ) → index ≤ b → b < index + length batches → SameFrame layout b old new)
    → Kept layout rules index first batches old → Kept layout rules index first batches new

-- A frame that continues the contents of a journal belongs to the contents.
abbrev pub KeptGoesOn : Layout → Type 0
KeptGoesOn layout = (rules : Rules) (index first : ℕ) (batches : List (List Command)) (commands : List Command) (image : List ℕ)
    → Kept layout rules index first batches image → IsFrame layout rules (index + length batches) (first + length (joined batches)) commands image
    → Kept layout rules index first (batches ++ commands ∷ []) image

-- The contents behind the first batches are the contents from their end on.
abbrev pub KeptIsCut : Layout → Type 0
KeptIsCut layout = (rules : Rules) (index first : ℕ) (batches others : List (List Command)) (image : List ℕ)
    → Kept layout rules index first (batches ++ others) image
    → Kept layout rules index first batches image × Kept layout rules (index + length batches) (first + length (joined batches)) others image

-- If a journal contains two lists of batches from the same index and number on, the shorter is a front of the longer.
abbrev pub KeptIsOne : Layout → Type 0
KeptIsOne layout = (rules : Rules) (index first : ℕ) (batches others : List (List Command)) (image : List ℕ)
    → Kept layout rules index first batches image → Kept layout rules index first others image → length others ≤ length batches
    → (rest : List (List Command)) × (batches ≡ others ++ rest)

-- Each of the batches has a frame that is open with its index, so there are no more batches than frames.
abbrev pub KeptIsOwn : Layout → Type 0
KeptIsOwn layout = (rules : Rules) (index first : ℕ) (batches : List (List Command)) (image : List ℕ) → Kept layout rules index first batches image
    → ((b : ℕ) → index ≤ b → b < index + length batches → IsOwn layout b image) × (length batches ≤ layout.count)
