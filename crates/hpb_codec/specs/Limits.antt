-- The sizes and the limits of the written formats, as numbers. Source: this project's own.
use Rattle.std.specs.Prelude.{◌≡◌}
use Rattle.hpb_codec.specs.declared.batch.TheConstants.{BATCH_SIZE}
use Rattle.hpb_codec.specs.declared.cells.TheConstants.{CELLS_SIZE}
use Rattle.hpb_codec.specs.declared.head.TheConstants.{HEAD_SIZE}
use Rattle.hpb_codec.specs.declared.layout.TheConstants.{PAGE_BYTES, LEAST_FRAMES, LEAST_CELL_FRAMES, CELL_FRAMES_STEP, MOST_FRAMES}
use Rattle.hpb_codec.specs.declared.record.TheConstants.{RECORD_SIZE}
use Rattle.hpb_codec.specs.declared.state.TheConstants.{STATE_SIZE, CHUNKS, CHUNK_SIZE}

-- Each size and each limit of the code is the number that the written format names.
pub record LimitsAre : Type 0 where
  pub page_bytes : PAGE_BYTES ≡ 4096
  pub record_bytes : RECORD_SIZE ≡ 16
  pub batch_bytes : BATCH_SIZE ≡ 4080
  pub cells_bytes : CELLS_SIZE ≡ 1520
  pub state_bytes : STATE_SIZE ≡ 16384
  pub chunks : CHUNKS ≡ 4
  pub chunk_bytes : CHUNK_SIZE ≡ 4096
  pub head_bytes : HEAD_SIZE ≡ 12272
  pub least_frames : LEAST_FRAMES ≡ 4
  pub least_cell_frames : LEAST_CELL_FRAMES ≡ 16
  pub cell_frames_step : CELL_FRAMES_STEP ≡ 8
  pub frames : MOST_FRAMES ≡ 1024
