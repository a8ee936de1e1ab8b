-- The shares of the code as definitions see them.
use Rattle.std.specs.Prelude.{◌+◌, ◌^◌, ◌<◌}
use Rattle.hpb_money.specs.Shares.{SharesView}
use Rattle.hpb_money.specs.declared.shares.Shares.TheInside.{Inside}

-- Each number as it is kept.
abbrev pub shares_view : Inside → SharesView
shares_view s = record { each = s.each; more = s.more }

-- The shares of the code that stand for these numbers.
abbrev pub shares_inside : SharesView → Inside
shares_inside s = record { each = s.each; more = s.more }

-- If some get one dollar more, that greater share fits 64 bits.
abbrev pub HasRoom : Inside → Type 0
HasRoom s = 0 < s.more → s.each + 1 < 2 ^ 64
