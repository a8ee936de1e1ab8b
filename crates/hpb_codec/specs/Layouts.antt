-- The layouts of a journal.
use Rattle.std.specs.Prelude.{◌≡◌, ℕ, ◌≤◌, ◌%◌}
use Rattle.hpb_codec.specs.declared.layout.JournalLayout.{JournalLayout}
use Rattle.hpb_codec.specs.declared.layout.JournalLayout.TheVariants.{Pages, Cells}
use Rattle.hpb_codec.specs.declared.layout.JournalShape.{JournalShape}
use Rattle.hpb_codec.specs.declared.layout.TheConstants.{LEAST_FRAMES, LEAST_CELL_FRAMES, CELL_FRAMES_STEP, MOST_FRAMES}

-- The shape of a journal is a layout and a number of frames. Each layout has a byte in the head, a least number of
-- frames, and a number that divides theirs, so that they fill whole pages.
--
-- The byte that names a layout in a head.
abbrev pub layout_byte : JournalLayout → ℕ
layout_byte Pages = 1
layout_byte Cells = 2

-- The least number of frames of a journal, and the number that divides theirs, so that they fill whole pages.
abbrev pub least_frames : JournalLayout → ℕ
least_frames Pages = LEAST_FRAMES
least_frames Cells = LEAST_CELL_FRAMES

abbrev pub step_of_frames : JournalLayout → ℕ
step_of_frames Pages = 1
step_of_frames Cells = CELL_FRAMES_STEP

-- A journal may have this shape.
pub record IsShape (shape : JournalShape) : Type 0 where
  pub least : least_frames shape.layout ≤ shape.frames
  pub most : shape.frames ≤ MOST_FRAMES
  pub whole : shape.frames % step_of_frames shape.layout ≡ 0
