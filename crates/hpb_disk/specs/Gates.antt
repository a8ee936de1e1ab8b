-- Gates: a gate is a byte that says whether the bytes behind it count.
use Rattle.std.specs.Prelude.{◌≡◌, ◌≢◌, ℕ, List, [], ◌∷◌}
use Rattle.hpb_disk.specs.Images.{part}

-- **Gate.** A byte that says whether the bytes behind it count. It is open at one value alone.
--
-- The byte of an open gate.
abbrev pub open_byte : List ℕ
open_byte = 165 ∷ []

-- The byte that closes a gate.
abbrev pub closed_byte : List ℕ
closed_byte = 0 ∷ []

-- The gate at this offset is open.
abbrev pub HasOpenGate : ℕ → List ℕ → Type 0
HasOpenGate at image = part at 1 image ≡ open_byte

-- The gate at this offset has any other value.
abbrev pub HasClosedGate : ℕ → List ℕ → Type 0
HasClosedGate at image = part at 1 image ≢ open_byte
