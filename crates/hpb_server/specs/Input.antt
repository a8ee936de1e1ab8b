-- The bytes read so far, in the code.
use Rattle.std.specs.Prelude.{◌≡◌, ◌≤◌, length, slice_range}
use Rattle.hpb_server.specs.declared.input.TheConstants.{CHUNK_BYTES}
use Rattle.hpb_server.specs.declared.input.Input.TheInside.{Inside}
use Rattle.hpb_server.specs.Reading.{Pending}

-- The unread bytes of the chunk, and how many may still be read.
abbrev pub pending : Inside → Pending
pending i = record { unread = slice_range i.chunk.items i.start i.end; budget = i.budget }

-- the unread bytes lie in the chunk
pub record IsInput (i : Inside) : Type 0 where
  pub ordered : i.start ≤ i.end
  pub within : i.end ≤ length i.chunk.items
  pub size : length i.chunk.items ≡ CHUNK_BYTES
