-- The head of a device: whether it was formatted, its definition, and the layout of its journal.
use Rattle.std.specs.Prelude.{◌≡◌, ℕ, ◌*◌, ◌%◌, ◌≤◌, List, length}
use Rattle.hpb_disk.specs.Images.{part}
use Rattle.hpb_disk.specs.Gates.{HasOpenGate}
use Rattle.hpb_journal.specs.Layouts.{Layout}
use Rattle.hpb_journal.specs.Shapes.{shaped}
use Rattle.hpb_codec.specs.declared.layout.TheConstants.{PAGE_BYTES}
use Rattle.hpb_recover.specs.declared.limits.TheConstants.{HEAD_AT, MAGIC_BYTES, LEAST_PAGES}
use Rattle.hpb_codec.specs.Heads.{SpellsHead, magic}
use Rattle.hpb_codec.specs.declared.head.Head.{Head}
use Rattle.hpb_codec.specs.declared.head.TheConstants.{HEAD_SIZE}

-- **Formatted, laid out.** An image is that of a formatted device if it has whole pages, at least 17, and its first
-- gate is open with the magic behind it. It is laid out by a head if its first three pages spell the head and it has
-- the length for the head's journal.
--
-- The head's gate is open, and behind it stands the magic.
pub record IsHeaded (image : List ℕ) : Type 0 where
  pub gate : HasOpenGate 0 image
  pub known : part HEAD_AT MAGIC_BYTES image ≡ magic

-- An image is that of a formatted device if it has whole pages, at least 17, and is headed.
pub record IsFormatted (image : List ℕ) : Type 0 where
  pub whole : length image % PAGE_BYTES ≡ 0
  pub least : PAGE_BYTES * LEAST_PAGES ≤ length image
  pub headed : IsHeaded image

-- The layout of the journal that a head names.
abbrev pub layout_of : Head → Layout
layout_of head = shaped head.journal

-- The first three pages spell this head, and the image has the length for its layout.
pub record IsLaidOut (head : Head) (image : List ℕ) : Type 0 where
  pub spelled : SpellsHead (part HEAD_AT HEAD_SIZE image) head
  pub size : length image ≡ (layout_of head).size
