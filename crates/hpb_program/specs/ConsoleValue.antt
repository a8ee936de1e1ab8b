-- The standard streams of the program at one moment, as far as their bytes are known.
use Rattle.std.specs.Prelude.{ℕ, Bool, List, Option}
use Rattle.hpb_server.specs.Streams.{Streams}

-- **Console.** The bytes that the input has left, and those that the output contains. Also whether the output failed,
-- or took nothing, at the last text; the bytes on standard error; and whether the input is a terminal.
pub record ConsoleValue : Type 0 where
  pub streams : Streams
  pub is_cut : Bool
  pub errors : Option (List ℕ)
  pub is_terminal : Bool
