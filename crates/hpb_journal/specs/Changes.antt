-- The bytes that a write of the journal leaves as they were. The head and the slots lie before the journal.
use Rattle.std.specs.Prelude.{◌≡◌, ℕ, List, length}
use Rattle.hpb_disk.specs.Images.{SameBefore}
use Rattle.hpb_journal.specs.declared.limits.TheConstants.{JOURNAL_AT}
use Rattle.hpb_journal.specs.Layouts.{Layout, AreApart}

-- The laws of a journal hold for each layout of frames.
--
-- The images differ at most in the body of this frame.
pub record ChangesBody (layout : Layout) (b : ℕ) (old new : List ℕ) : Type 0 where
  pub before : SameBefore JOURNAL_AT old new
  pub size : length new ≡ length old
  pub gates : (other : ℕ) → layout.gate other new ≡ layout.gate other old
  pub bodies : (other : ℕ) → AreApart layout b other → layout.body other new ≡ layout.body other old

-- The images differ at most in the gate of this frame.
pub record ChangesGate (layout : Layout) (b : ℕ) (old new : List ℕ) : Type 0 where
  pub before : SameBefore JOURNAL_AT old new
  pub size : length new ≡ length old
  pub gates : (other : ℕ) → AreApart layout b other → layout.gate other new ≡ layout.gate other old
  pub bodies : (other : ℕ) → layout.body other new ≡ layout.body other old

-- One of these images, with any bytes in the body of this frame.
abbrev pub TornBody : Layout → ℕ → (List ℕ → Type 0) → List ℕ → Type 0
TornBody layout b images new = (old : List ℕ) × images old × ChangesBody layout b old new

-- One of these images, with any byte in the gate of this frame.
abbrev pub TornGate : Layout → ℕ → (List ℕ → Type 0) → List ℕ → Type 0
TornGate layout b images new = (old : List ℕ) × images old × ChangesGate layout b old new
