-- Calls that only read or sync.
use Rattle.std.specs.Prelude.{◌≡◌, ℕ, ◌+◌, ◌-◌, ◌*◌, ◌/◌, ◌≤◌, ◌==◌, List, length, if◌then◌else◌}
use Rattle.hpb_codec.specs.Layouts.{layout_byte}
use Rattle.hpb_codec.specs.Numbers.{value}
use Rattle.hpb_codec.specs.declared.layout.JournalLayout.TheVariants as layouts
use Rattle.hpb_disk.specs.Device.{Device}
use Rattle.hpb_disk.specs.Images.{part, Within}
use Rattle.hpb_journal.specs.Shapes.{frame_bytes}
use Rattle.hpb_journal.specs.declared.limits.TheConstants.{JOURNAL_AT}
use Rattle.hpb_recover.specs.declared.limits.TheConstants.{HEAD_AT, MAGIC_BYTES}

-- Since each earlier moment a crash may leave the same images as before these calls, no more and no less.
pub record LeavesNothingNew (old new : Device) : Type 0 where
  pub later : old.moment ≤ new.moment
  pub nothing_else : (moment : ℕ) → moment ≤ old.moment → Within (new.left_since moment) (old.left_since moment)
  pub keeps : (moment : ℕ) → moment ≤ old.moment → Within (old.left_since moment) (new.left_since moment)

-- Reads give the same as before. A crash leaves no new image, now or since an earlier moment. There were at most
-- `calls` calls of the device.
pub record IsQuiet (calls : ℕ) (old new : Device) : Type 0 where
  pub same : new.seen ≡ old.seen
  pub crash : Within new.may_leave old.may_leave
  pub since : LeavesNothingNew old new
  pub few : new.moment ≤ old.moment + calls

-- The byte of an image by which its head names a layout.
abbrev pub layout_byte_in : List ℕ → ℕ
layout_byte_in image = value (part (HEAD_AT + MAGIC_BYTES) 1 image)

-- The bytes of a frame in that layout: three cells if the byte names the layout of cells, else a page.
abbrev pub frame_bytes_in : List ℕ → ℕ
frame_bytes_in image = if layout_byte_in image == layout_byte layouts.Cells then frame_bytes layouts.Cells else frame_bytes layouts.Pages

-- How many such frames an image has room for.
unfoldable pub frames_in : List ℕ → ℕ
frames_in image = (length image - JOURNAL_AT) / frame_bytes_in image

-- How many reads go over an image once: two of the head, two of each slot, and one of each frame.
abbrev pub reads_in : List ℕ → ℕ
reads_in image = 2 + 2 * 2 + frames_in image
