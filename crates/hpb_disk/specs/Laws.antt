-- The laws of images: how the terms fit together.
use Rattle.std.specs.Prelude.{◌≡◌, ◌⊎◌, ℕ, ◌+◌, ◌<◌, ◌≤◌, List, [], ◌∷◌, length}
use Rattle.hpb_disk.specs.Gates.{HasOpenGate, HasClosedGate}
use Rattle.hpb_disk.specs.Images.{part, put, Torn}

-- Bytes that are put at an offset of an image are read there.
abbrev pub PutIsRead : Type 0
PutIsRead = (at : ℕ) (bytes image : List ℕ) → at + length bytes ≤ length image → part at (length bytes) (put at bytes image) ≡ bytes

-- Bytes that are put at an offset change nothing else, and not the length: the image is torn only there.
abbrev pub PutIsTorn : Type 0
PutIsTorn = (at : ℕ) (bytes image : List ℕ) → at + length bytes ≤ length image → Torn at (length bytes) image (put at bytes image)

-- If an image is torn at an offset, a part apart from there stays.
abbrev pub ElsewhereStays : Type 0
ElsewhereStays = (from many at count : ℕ) (old new : List ℕ) → Torn at count old new
    → (from + many ≤ at) ⊎ (at + count ≤ from) → part from many new ≡ part from many old

-- Each gate is open or closed.
abbrev pub OpenOrClosed : Type 0
OpenOrClosed = (at : ℕ) (image : List ℕ) → HasOpenGate at image ⊎ HasClosedGate at image

-- A torn gate has some byte, and all other bytes stay.
abbrev pub TornGateIsAByte : Type 0
TornGateIsAByte = (at : ℕ) (old new : List ℕ) → at < length old → Torn at 1 old new → (byte : ℕ) × (new ≡ put at (byte ∷ []) old)
