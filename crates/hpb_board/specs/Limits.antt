-- The limits of the board, as the numbers that the documents name.
use Rattle.std.specs.Prelude.{◌≡◌, ◌^◌}
use Rattle.hpb_board.specs.declared.publisher.TheConstants.{MOST_BATCHES}

-- Each limit of the code is the number that the documents name.
pub record LimitsAre : Type 0 where
  -- How many batches are published at most.
  pub batches : MOST_BATCHES ≡ 2 ^ 62
