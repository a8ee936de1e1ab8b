-- A reader and a writer, as far as their bytes are known.
use Rattle.std.specs.Prelude.{ℕ, List, Option}
use Rattle.std.specs.Io.KnownBytes.{Keeps}

-- **Streams.** A reader and a writer, as far as their bytes are known: the bytes that the reader has left, and those
-- that the writer contains. At most one byte more is taken from a reader than may be read, to see whether there is
-- more.
--
-- The bytes at one time: those that the reader has left, and those that the writer contains.
pub record Streams : Type 0 where
  pub remaining : Option (List ℕ)
  pub contents : Option (List ℕ)

-- This reader and this writer.
abbrev pub streams : Option (List ℕ) → Option (List ℕ) → Streams
streams remaining contents = record { remaining = remaining; contents = contents }

-- Nothing is read, and nothing is written.
abbrev pub AreKept : Streams → Streams → Type 0
AreKept before after = Keeps before.remaining after.remaining × Keeps before.contents after.contents
