-- The worked row of sixty-four licences: all bids at the greatest amount.
use Rattle.std.specs.Prelude.{ℕ, ◌+◌, List, ◌++◌, codes, decimal}
use Rattle.std.specs.List.{range_with_len, flat_map}
use Rattle.std.specs.Fmt.{digits}
use mathlib.Core.Path.{refl}
use Rattle.hpb_rules.specs.RowRules.{sixty_four, Gets}

-- A bid of the greatest amount on a licence.
abbrev bid_on : ℕ → List ℕ
bid_on number = codes "BID g " ++ decimal (number + 1) ++ codes " l" ++ decimal number ++ codes " 1000000000000\n"

-- An accepted command.
abbrev ok : ℕ → List ℕ
ok number = codes "OK " ++ decimal number ++ codes "\n"

sixty_four_licences : Gets sixty_four (flat_map bid_on (range_with_len 0 64) ++ codes "CLOSE 1\nSHOW\nBID g 65 l0 1100000000000\n")
    (flat_map ok (range_with_len 1 65) ++ codes "ROUND 2 STAGE 1 OPEN REVENUE 64000000000000 COUNT 65\nERR 23 high\n")
unfolding digits
sixty_four_licences = refl
