-- Dollars that are shared out.
use Rattle.std.specs.Prelude.{ℕ, ◌+◌, ◌/◌, ◌%◌, cond, nat_lt}

-- The dollars that each place gets, and how many places get one dollar more.
pub record SharesView : Type 0 where
  pub each : ℕ
  pub more : ℕ

-- Dollars shared out among a count: the quotient for each, and the remainder as the number that get one dollar more.
abbrev pub shared : ℕ → ℕ → SharesView
shared dollars count = record { each = dollars / count; more = dollars % count }

-- The dollars that fall to a place, from 0: the first places get one dollar more.
abbrev pub part : SharesView → ℕ → ℕ
part shares place = shares.each + cond (nat_lt place shares.more) 1 0
