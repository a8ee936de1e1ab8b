-- The progress after each step.
use Rattle.std.specs.Prelude.{ℕ, ◌+◌, true, false, List, []}
use Rattle.hpb_rules.specs.declared.letter.Answer.{Answer}
use Rattle.hpb_rules.specs.AuctionValue.{AuctionValue}
use Rattle.hpb_codec.specs.declared.batch.Batch.{Batch}
use Rattle.hpb_slots.specs.Slots.{other_of}
use Rattle.hpb_engine.specs.declared.progress.Progress.{Progress}
use Rattle.hpb_engine.specs.Numbers.{end_of}

-- A progress with a batch put in flight, its answers, and the auction after it.
abbrev pub begun : Progress → Batch → List Answer → AuctionValue → Progress
begun s batch answers working = record s { commit = record { busy = true; turns = 0; batch = batch; answers = answers; working = working } }

-- **Turns.** The fourth turn alone is the last one, and a third one that fails counts all the same. To the machine a
-- turn is a turn whose device call works or fails; after a fault there is none.
--
-- A batch in flight has had this many turns.
abbrev pub turned : Progress → ℕ → Progress
turned s turns = record s { commit = record s.commit { turns = turns } }

-- A batch is acknowledged, and its answers have left.
abbrev pub acknowledged : Progress → Progress
acknowledged s = record s {
  committed = s.commit.working;
  window = record s.window { next = s.window.next + 1 };
  commit = record s.commit { busy = false; turns = 0; answers = [] };
}

-- A checkpoint of all that is acknowledged is begun. Its bytes are those of another progress, and the other slot's gate
-- is written.
abbrev pub snapped : Progress → Progress → Progress
snapped s other = record s { checkpoint = record s.checkpoint { steps = 1; covers = s.window.next; body = other.checkpoint.body } }

-- The other slot is closed.
abbrev pub emptied : Progress → Progress
emptied s = record s { checkpoint = record s.checkpoint { steps = 2; other_open = false } }

-- A checkpoint has made this many steps.
abbrev pub stepped : Progress → ℕ → Progress
stepped s steps = record s { checkpoint = record s.checkpoint { steps = steps } }

-- The checkpoint is the newest state. Frames that it covers are retired next.
abbrev pub renewed : Progress → Progress
renewed s = record s {
  window = record s.window { covered = s.checkpoint.covers };
  checkpoint = record s.checkpoint { newest = other_of s.checkpoint.newest; other_open = true; steps = 0 };
  retirement = record s.retirement { going = true };
}

-- One more frame is closed.
abbrev pub retired : Progress → Progress
retired s = record s { retirement = record { going = true; upto = s.retirement.upto + 1 } }

-- All frames that aren't in use are clean.
abbrev pub cleaned : Progress → Progress
cleaned s = record s {
  window = record s.window { clean_end = end_of s.window };
  retirement = record { going = false; upto = end_of s.window };
}
