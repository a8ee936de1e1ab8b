-- The parts of an image that are read before its head is decoded.
use Rattle.std.specs.Prelude.{◌≡◌, ℕ, ◌*◌, ◌%◌, ◌≤◌, List, length}
use Rattle.hpb_codec.specs.declared.head.TheConstants.{HEAD_SIZE}
use Rattle.hpb_disk.specs.Gates.{HasOpenGate}
use Rattle.hpb_disk.specs.Images.{part}
use Rattle.hpb_codec.specs.declared.layout.TheConstants.{PAGE_BYTES}
use Rattle.hpb_recover.specs.declared.limits.TheConstants.{HEAD_AT, LEAST_PAGES}

-- The image has this length, whole pages, at least 17, an open gate, and these bytes behind it.
pub record Begins (bytes : List ℕ) (len : ℕ) (image : List ℕ) : Type 0 where
  pub size : length image ≡ len
  pub whole : len % PAGE_BYTES ≡ 0
  pub least : PAGE_BYTES * LEAST_PAGES ≤ len
  pub gate : HasOpenGate 0 image
  pub head : bytes ≡ part HEAD_AT HEAD_SIZE image
