-- A gate and two places for a record behind it. While the gate is closed the first place counts, and while it is open
-- the second.
use Rattle.std.specs.Prelude.{◌≡◌, ◌⊎◌, ℕ, ◌+◌, ◌*◌, List, drop}
use Rattle.hpb_disk.specs.Gates.{HasOpenGate, HasClosedGate}
use Rattle.hpb_disk.specs.Images.{part}

-- The record that counts, of this size, has these bytes.
abbrev pub HasRecord : ℕ → List ℕ → List ℕ → Type 0
HasRecord size bytes image =
    (HasClosedGate 0 image × (part 1 size image ≡ bytes))
    ⊎ (HasOpenGate 0 image × (part (1 + size) size image ≡ bytes))

-- The record that counts is one of two.
abbrev pub HasEither : ℕ → List ℕ → List ℕ → List ℕ → Type 0
HasEither size one other image = HasRecord size one image ⊎ HasRecord size other image

-- Behind both places the image has the same bytes as another.
abbrev pub HasSameRest : ℕ → List ℕ → List ℕ → Type 0
HasSameRest size other image = drop (1 + 2 * size) image ≡ drop (1 + 2 * size) other
