-- The numbers of formatting, written once more.
use Rattle.std.specs.Prelude.{◌≡◌}
use Rattle.hpb_format.specs.declared.place.TheConstants.{HEAD_GATE}
use Rattle.hpb_recover.specs.declared.limits.TheConstants.{HEAD_AT, MAGIC_BYTES}
use Rattle.hpb_codec.specs.declared.head.TheConstants.{HEAD_SIZE}
use Rattle.hpb_slots.specs.declared.limits.TheConstants.{SLOTS_AT, SLOTS_END}
use Rattle.hpb_codec.specs.declared.state.TheConstants.{STATE_SIZE, CHUNKS}
use Rattle.hpb_journal.specs.declared.limits.TheConstants.{JOURNAL_AT}

-- Each number that the clauses of formatting name.
pub record LimitsAre : Type 0 where
  pub head_gate : HEAD_GATE ≡ 0
  pub head : HEAD_AT ≡ 16
  pub magic_bytes : MAGIC_BYTES ≡ 8
  pub head_bytes : HEAD_SIZE ≡ 12272
  pub slots : SLOTS_AT ≡ 12288
  pub slots_end : SLOTS_END ≡ 53248
  pub state_bytes : STATE_SIZE ≡ 16384
  pub chunks : CHUNKS ≡ 4
  pub journal : JOURNAL_AT ≡ 53248
