-- The numbers of opening, written once more.
use Rattle.std.specs.Prelude.{◌≡◌}
use Rattle.hpb_recover.specs.declared.limits.TheConstants.{LEAST_PAGES, HEAD_AT, MAGIC_BYTES}
use Rattle.hpb_codec.specs.declared.head.TheConstants.{HEAD_SIZE}
use Rattle.hpb_codec.specs.declared.layout.TheConstants.{PAGE_BYTES}
use Rattle.hpb_slots.specs.declared.limits.TheConstants.{SLOTS_END}
use Rattle.hpb_journal.specs.declared.limits.TheConstants.{JOURNAL_AT}

-- Each number that the clauses of opening name.
pub record LimitsAre : Type 0 where
  pub page_bytes : PAGE_BYTES ≡ 4096
  pub least_pages : LEAST_PAGES ≡ 17
  pub head : HEAD_AT ≡ 16
  pub magic_bytes : MAGIC_BYTES ≡ 8
  pub head_bytes : HEAD_SIZE ≡ 12272
  pub slots_end : SLOTS_END ≡ 53248
  pub journal : JOURNAL_AT ≡ 53248
