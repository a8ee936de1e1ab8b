-- Numbers as bytes. All numbers of the formats are written with their greatest byte first.
use Rattle.std.specs.Prelude.{ℕ, zero, suc, ◌+◌, ◌-◌, ◌*◌, ◌/◌, ◌%◌, ◌^◌, List, [], ◌∷◌, ◌++◌, length, take, drop}

-- A number in k bytes. If it is too large for them, they are its low ones.
unfoldable pub number : ℕ → ℕ → List ℕ
number zero n = []
number (suc k) n = n / 256 ^ k % 256 ∷ number k n

-- `zeros k`: k zero bytes.
abbrev pub zeros : ℕ → List ℕ
zeros k = number k 0

-- Bytes, padded with zero bytes up to a size.
unfoldable pub filled : ℕ → List ℕ → List ℕ
filled size bytes = bytes ++ zeros (size - length bytes)

-- The number that bytes spell behind the number n.
unfoldable pub value_from : ℕ → List ℕ → ℕ
value_from n [] = n
value_from n (b ∷ bytes) = value_from (n * 256 + b) bytes

-- The number that bytes spell.
abbrev pub value : List ℕ → ℕ
value bytes = value_from 0 bytes

-- `leading k bytes`: the number that the first k bytes spell, the greatest byte first.
unfoldable pub leading : ℕ → List ℕ → ℕ
leading k bytes = value (take k bytes)

-- `rest n bytes`: the bytes behind the first n.
unfoldable pub rest : ℕ → List ℕ → List ℕ
rest k bytes = drop k bytes

-- `before n bytes`: the first n bytes.
unfoldable pub before : ℕ → List ℕ → List ℕ
before k bytes = take k bytes
