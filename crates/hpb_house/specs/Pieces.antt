-- A device in pieces.
use Rattle.std.specs.Prelude.{ℕ, ◌<◌, ◌*◌}

-- A device of `device` bytes, in pieces of `most` bytes, has a piece of this number: it begins within the device, and
-- isn't empty.
abbrev pub IsPiece : (device most number : ℕ) → Type 0
IsPiece device most number = (number * most < device) × (0 < most)
