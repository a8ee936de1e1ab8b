-- The places at which a mask has a bit.
use Rattle.std.specs.Prelude.{◌≡◌, ℕ, ◌+◌, ◌^◌, ◌<◌, ◌≤◌, Option, Some, None}

-- The greatest set bit of a mask is taken out of it, and the others stay. A mask without a bit is 0.
abbrev pub IsGreatestTaken : ℕ → Option ℕ → ℕ → Type 0
IsGreatestTaken old None new = (old ≡ 0) × (new ≡ 0)
IsGreatestTaken old (Some place) new = (old ≡ 2 ^ place + new) × (new < 2 ^ place)

-- The greatest bit of a word is at this place.
pub record IsTopPlace (word place : ℕ) : Type 0 where
  pub within : place < 64
  pub least : 2 ^ place ≤ word
  pub most : word < 2 ^ place + 2 ^ place
