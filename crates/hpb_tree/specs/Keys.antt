-- The keys that names are compared by.
use Rattle.std.specs.Prelude.{ℕ, ◌+◌, ◌*◌, List, [], ◌∷◌, length, take, drop}
use Rattle.hpb_tree.specs.declared.key.NameKey.{NameKey}

-- The number that bytes spell as digits of base 256 behind the digits of another number.
unfoldable pub number_from : ℕ → List ℕ → ℕ
number_from n [] = n
number_from n (byte ∷ bytes) = number_from (n * 256 + byte) bytes

-- The number that bytes spell as digits of base 256, the first one the highest.
abbrev pub number : List ℕ → ℕ
number bytes = number_from 0 bytes

-- A name's length, the number of its first eight bytes and that of the next eight.
unfoldable pub key_of : List ℕ → NameKey
key_of name = record { len = length name; first = number (take 8 name); rest = number (take 8 (drop 8 name)) }
