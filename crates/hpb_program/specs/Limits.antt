-- The limits of the program, as the numbers in the documents.
use Rattle.std.specs.Prelude.{◌≡◌, ◌-◌, ◌^◌, length}
use Rattle.hpb_codec.specs.declared.layout.JournalLayout.TheVariants.{Pages, Cells}
use Rattle.hpb_program.specs.declared.formatting.TheConstants.{KEPT_BYTES}
use Rattle.hpb_program.specs.declared.serving.TheConstants.{CLOSED_BYTES}
use Rattle.hpb_program.specs.Serving.{closed_line}
use Rattle.hpb_messages.specs.Pages.{pages_of}

-- Each limit of the code is the one in the documents.
pub record LimitsAre : Type 0 where
  -- The pages of files with the least journals, with those of 64 frames, and with the greatest ones.
  pub least_pages : pages_of (record { layout = Pages; frames = 4 }) ≡ 17
  pub pages : pages_of (record { layout = Pages; frames = 64 }) ≡ 77
  pub most_pages : pages_of (record { layout = Pages; frames = 1024 }) ≡ 1037
  pub least_cells : pages_of (record { layout = Cells; frames = 16 }) ≡ 19
  pub cells : pages_of (record { layout = Cells; frames = 64 }) ≡ 37
  pub most_cells : pages_of (record { layout = Cells; frames = 1024 }) ≡ 397
  -- A definition is read up to one byte more than it may have, and the last line of serving has room for the greatest
  -- count.
  pub definition_bytes : KEPT_BYTES ≡ 65537
  pub closed_bytes : length (closed_line (2 ^ 32 - 1)) ≡ CLOSED_BYTES
