-- The limits of serving, as the numbers that the documents name.
use Rattle.std.specs.Prelude.{◌≡◌}
use Rattle.hpb_serve.specs.declared.connection.TheConstants.{READ_LOOKS, ANSWER_LOOKS, MOST_LOOKING}
use Rattle.hpb_serve.specs.declared.door.TheConstants.{MISSED_WAIT}
use Rattle.hpb_serve.specs.declared.sameness.TheConstants.{PIECE_BYTES}

-- Each limit of the code is the number in the documents.
pub record LimitsAre : Type 0 where
  -- How often a session looks for more to read, and how often for an answer.
  pub read_looks : READ_LOOKS ≡ 100
  pub answer_looks : ANSWER_LOOKS ≡ 400
  -- With more sessions than these none looks.
  pub looking : MOST_LOOKING ≡ 8
  -- How many milliseconds no accept is tried after one that failed.
  pub missed_wait : MISSED_WAIT ≡ 100
  -- How many bytes of a device are compared at a time, with the lock taken.
  pub piece : PIECE_BYTES ≡ 65536
