-- How the numbers and values of a progress agree, whatever is on the device.
use Rattle.std.specs.Prelude.{◌≡◌, ℕ, suc, ◌+◌, ◌-◌, ◌<◌, ◌≤◌, nat_le, Bool, true, false, ◌||◌, length, slice_index_or}
use Rattle.hpb_rules.specs.declared.limits.TheConstants.{MOST_COMMANDS}
use Rattle.hpb_rules.specs.AuctionValue.{AuctionValue}
use Rattle.hpb_codec.specs.declared.state.TheConstants.{STATE_SIZE}
use Rattle.hpb_codec.specs.declared.layout.TheConstants.{LEAST_FRAMES, MOST_FRAMES}
use Rattle.hpb_journal.specs.Layouts.{Layout}
use Rattle.hpb_journal.specs.Shapes.{shape_of, shaped}
use Rattle.hpb_engine.specs.declared.progress.Checkpoint.{Checkpoint}
use Rattle.hpb_engine.specs.declared.progress.Commit.{Commit}
use Rattle.hpb_engine.specs.declared.progress.Progress.{Progress}
use Rattle.hpb_engine.specs.declared.progress.Retirement.{Retirement}
use Rattle.hpb_engine.specs.declared.progress.Window.{Window}

-- How many frames there are.
abbrev pub count_of : Window → ℕ
count_of window = (shape_of window.frames).frames

-- The places of the frames on the device.
abbrev pub layout_of : Window → Layout
layout_of window = shaped (shape_of window.frames)

-- The end of the frames that serve the batches from the newest slot's index on: that index plus the number of frames.
abbrev pub end_of : Window → ℕ
end_of window = window.covered + count_of window

-- Whether the gate of a frame that isn't clean may be open. It may if the frame has held a batch since the device was
-- opened. Otherwise it is as it was at the opening.
abbrev pub may_be_open : Window → ℕ → Bool
may_be_open window b = nat_le (window.opened_at + count_of window) b || slice_index_or window.gates.items (b - window.opened_at) false

-- The indexes are in order, and each frame up to the end of the clean ones serves one of them.
pub record WindowFits (window : Window) : Type 0 where
  pub least : LEAST_FRAMES ≤ count_of window
  pub most : count_of window ≤ MOST_FRAMES
  pub gates : length window.gates.items ≡ count_of window
  pub opened : window.opened_at ≤ window.covered
  pub covered : window.covered ≤ window.next
  pub clean : window.next ≤ window.clean_end
  pub end : window.clean_end ≤ end_of window

-- A batch in flight has a clean frame, and the auction after it has at least one more command. With none in flight, the
-- working auction is the committed one.
pub record CommitFits (window : Window) (committed : AuctionValue) (commit : Commit) : Type 0 where
  pub turns : commit.turns ≤ 3
  pub idle : commit.busy ≡ false → commit.turns ≡ 0
  pub rest : commit.busy ≡ false → commit.working ≡ committed
  pub rules : commit.working.rules ≡ committed.rules
  pub room : commit.busy ≡ true → window.next < window.clean_end
  pub more : commit.busy ≡ true → suc committed.count ≤ commit.working.count

-- A checkpoint covers more batches than the newest slot does, and at most all.
pub record CheckpointFits (window : Window) (checkpoint : Checkpoint) : Type 0 where
  pub steps : checkpoint.steps ≤ 8
  pub size : length checkpoint.body.items ≡ STATE_SIZE
  pub new : 1 ≤ checkpoint.steps → window.covered < checkpoint.covers
  pub old : 1 ≤ checkpoint.steps → checkpoint.covers ≤ window.next
  pub closed : 2 ≤ checkpoint.steps → checkpoint.other_open ≡ false

-- Frames are retired only while no checkpoint is written, and only if some aren't clean.
pub record RetirementFits (window : Window) (checkpoint : Checkpoint) (retirement : Retirement) : Type 0 where
  pub alone : retirement.going ≡ true → checkpoint.steps ≡ 0
  pub idle : retirement.going ≡ false → retirement.upto ≡ window.clean_end
  pub some : retirement.going ≡ true → window.clean_end < end_of window
  pub from : window.clean_end ≤ retirement.upto
  pub to : retirement.upto ≤ end_of window

-- The numbers and values of a progress agree, whatever is on the device: indexes are in order, turns are at most 3, and
-- steps at most 8. Each batch has a command, so indexes stay within bounds.
pub record IsSafe (s : Progress) : Type 0 where
  pub window : WindowFits s.window
  pub commit : CommitFits s.window s.committed s.commit
  pub checkpoint : CheckpointFits s.window s.checkpoint
  pub retirement : RetirementFits s.window s.checkpoint s.retirement
  pub few : s.window.next ≤ MOST_COMMANDS + MOST_FRAMES + s.committed.count
