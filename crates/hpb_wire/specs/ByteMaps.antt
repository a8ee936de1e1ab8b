-- The places of a byte in a line, as a number.
use Rattle.std.specs.Prelude.{◌≡◌, ℕ, ◌≤◌, ◌==◌, true, List, map, if◌then◌else◌}
use Rattle.std.specs.Simd.Lanes.{mask_l}
use Rattle.hpb_rules.specs.Lines.{space}
use Rattle.hpb_wire.specs.declared.cut.Words.{Words}
use Rattle.hpb_wire.specs.Words.{bytes_of}

-- Bit i is set if byte i is the given one.
abbrev pub map_of : ℕ → List ℕ → ℕ
map_of byte line = mask_l (map (λ b. b == byte) line)

-- If the words are mapped, they are at most 32 bytes, and the map is that of their spaces. Otherwise the map is 0.
pub record IsMapped (words : Words) : Type 0 where
  pub short : words.is_mapped ≡ true → words.line.size ≤ 32
  pub spaces : words.spaces ≡ (if words.is_mapped then map_of space (bytes_of words.line) else 0)
