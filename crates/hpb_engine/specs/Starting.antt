-- The progress with which an engine starts, by the plan of the opened device.
use Rattle.std.specs.Prelude.{◌≡◌, ℕ, false, List, length}
use Rattle.hpb_rules.specs.declared.command.Command.{Command}
use Rattle.hpb_codec.specs.declared.state.TheConstants.{STATE_SIZE}
use Rattle.hpb_recover.specs.Standing.{Stands}
use Rattle.hpb_journal.specs.Shapes.{shape_of}
use Rattle.hpb_recover.specs.declared.plan.Plan.{Plan}
use Rattle.hpb_engine.specs.declared.progress.Checkpoint.{Checkpoint}
use Rattle.hpb_engine.specs.declared.progress.Commit.{Commit}
use Rattle.hpb_engine.specs.declared.progress.Progress.{Progress}
use Rattle.hpb_engine.specs.declared.progress.Retirement.{Retirement}
use Rattle.hpb_engine.specs.declared.progress.Window.{Window}
use Rattle.hpb_engine.specs.Cuts.{Cut}

-- The frames are those of the plan.
pub record IsFreshWindow (window : Window) (plan : Plan) : Type 0 where
  pub frames : shape_of window.frames ≡ shape_of plan.frames
  pub covered : window.covered ≡ plan.covered
  pub next : window.next ≡ plan.next
  pub clean_end : window.clean_end ≡ plan.clean_end
  pub opened_at : window.opened_at ≡ plan.covered
  pub gates : window.gates.items ≡ plan.gates.items

-- No batch is in flight.
pub record IsFreshCommit (commit : Commit) (plan : Plan) : Type 0 where
  pub busy : commit.busy ≡ false
  pub turns : commit.turns ≡ 0
  pub working : commit.working ≡ plan.auction

-- No checkpoint is written, and there is room for the bytes of one.
pub record IsFreshCheckpoint (checkpoint : Checkpoint) (plan : Plan) : Type 0 where
  pub newest : checkpoint.newest ≡ plan.slot
  pub other_open : checkpoint.other_open ≡ plan.other_open
  pub steps : checkpoint.steps ≡ 0
  pub size : length checkpoint.body.items ≡ STATE_SIZE

-- No frame is retired.
pub record IsFreshRetirement (retirement : Retirement) (plan : Plan) : Type 0 where
  pub going : retirement.going ≡ false
  pub upto : retirement.upto ≡ plan.clean_end

-- The progress is the plan's, with nothing on its way.
pub record IsFresh (s : Progress) (plan : Plan) : Type 0 where
  pub committed : s.committed ≡ plan.auction
  pub window : IsFreshWindow s.window plan
  pub commit : IsFreshCommit s.commit plan
  pub checkpoint : IsFreshCheckpoint s.checkpoint plan
  pub retirement : IsFreshRetirement s.retirement plan

-- How a history lies on a device whose image stands for it.
abbrev pub cut_of : (history : List Command) (image : List ℕ) → Stands history image → Cut
cut_of history image stands = record { rules = stands.head.definition; before = stands.before; batches = stands.batches }
