-- The sizes and the limits of the code are those of the written format.
use Rattle.std.proofs.Common.{refl}
use Rattle.hpb_codec.specs.Limits.{LimitsAre}

pub limits_are : LimitsAre
limits_are = record {
  page_bytes = refl;
  record_bytes = refl;
  batch_bytes = refl;
  cells_bytes = refl;
  state_bytes = refl;
  chunks = refl;
  chunk_bytes = refl;
  head_bytes = refl;
  least_frames = refl;
  least_cell_frames = refl;
  cell_frames_step = refl;
  frames = refl;
}
