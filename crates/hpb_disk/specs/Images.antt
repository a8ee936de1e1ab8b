-- The terms of images. An image is the list of all bytes of a device; a crash may leave any image of a set.
use Rattle.std.specs.Prelude.{◌≡◌, ℕ, ◌+◌, ◌≤◌, List, ◌++◌, length, take, drop}

-- **Part, put, torn.** `hpb_disk/specs`. Bytes that are put at an offset replace as many bytes there. An image is torn
-- at an offset if it is the old one except for a number of bytes there, which may be any.
--
-- `part at count image`: the bytes from an offset on, as many as the count.
abbrev pub part : ℕ → ℕ → List ℕ → List ℕ
part at count image = take count (drop at image)

-- The image with these bytes at an offset.
abbrev pub put : ℕ → List ℕ → List ℕ → List ℕ
put at bytes image = take at image ++ bytes ++ drop (at + length bytes) image

-- The same image except for `count` bytes from an offset on, which may be any.
pub record Torn (at count : ℕ) (old new : List ℕ) : Type 0 where
  pub before : take at new ≡ take at old
  pub after : drop (at + count) new ≡ drop (at + count) old
  pub size : length new ≡ length old

-- Both images have the same bytes before this offset.
abbrev pub SameBefore : ℕ → List ℕ → List ℕ → Type 0
SameBefore end old new = (at count : ℕ) → at + count ≤ end → part at count new ≡ part at count old

-- Both images have the same bytes from this offset on.
abbrev pub SameFrom : ℕ → List ℕ → List ℕ → Type 0
SameFrom start old new = (at count : ℕ) → start ≤ at → part at count new ≡ part at count old

-- One of these images, torn at an offset.
abbrev pub TornFrom : ℕ → ℕ → (List ℕ → Type 0) → List ℕ → Type 0
TornFrom at count images new = (old : List ℕ) × images old × Torn at count old new

-- There is no image but this one.
abbrev pub Only : List ℕ → (List ℕ → Type 0) → Type 0
Only image images = (other : List ℕ) → images other → other ≡ image

-- Each of the first images is one of the second.
abbrev pub Within : (List ℕ → Type 0) → (List ℕ → Type 0) → Type 0
Within images those = (image : List ℕ) → images image → those image
