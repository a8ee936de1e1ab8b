-- The entries of a trace.
use Rattle.std.specs.Prelude.{ℕ, List, slice_index}

-- A call as numbers, its kind and an offset, and the bytes that it wrote.
abbrev pub Event : Type 0
Event = ℕ × ℕ × List ℕ

-- The entry with these numbers and bytes.
abbrev pub event_of : List ℕ → List ℕ → Event
event_of numbers bytes = (slice_index numbers 0, slice_index numbers 1, bytes)
