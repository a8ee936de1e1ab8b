-- Numbers as the code reads them, step by step.
use Rattle.std.specs.Prelude.{ℕ, ◌^◌, List, ◌==◌, ◌&&◌, nat_lt, Bool, length, slice_index, Option, Some, None, if◌then◌else◌}
use Rattle.std.specs.Char.{is_ascii_digit, digit_value}
use Rattle.std.specs.Str.{all_ascii_digits}
use Rattle.std.specs.Str.Parse.{digits_value, digits_value_after}

-- Whether a zero stands before another digit.
abbrev pub has_front_zero : List ℕ → Bool
has_front_zero word = nat_lt 1 (length word) && (slice_index word 0 == 48)

-- The number below 2^64 that digits spell, whatever the first of them is.
abbrev pub number_of_digits : List ℕ → Option ℕ
number_of_digits word = if all_ascii_digits word && nat_lt 0 (length word) && nat_lt (digits_value 10 word) (2 ^ 64) then Some (digits_value 10 word) else None

-- The value of a byte, if it is a digit.
abbrev pub digit_number : ℕ → Option ℕ
digit_number byte = if is_ascii_digit byte then Some (digit_value byte) else None

-- The number that digits spell behind the digits of another number.
abbrev pub digits_after : ℕ → List ℕ → Option ℕ
digits_after number digits = if all_ascii_digits digits then Some (digits_value_after 10 number digits) else None

-- The number that digits spell, or 0 if there are none.
abbrev pub digits_number : List ℕ → Option ℕ
digits_number digits = digits_after 0 digits
