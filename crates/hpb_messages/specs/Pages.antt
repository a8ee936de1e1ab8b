-- The length of a file, by its journal.
use Rattle.std.specs.Prelude.{ℕ, ◌/◌}
use Rattle.hpb_codec.specs.declared.layout.JournalShape.{JournalShape}
use Rattle.hpb_journal.specs.Shapes.{shaped}
use Rattle.hpb_codec.specs.declared.layout.TheConstants.{PAGE_BYTES}

-- How many pages a device has whose journal has this shape.
abbrev pub pages_of : JournalShape → ℕ
pages_of journal = (shaped journal).size / PAGE_BYTES
