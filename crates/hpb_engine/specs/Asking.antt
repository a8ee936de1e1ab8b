-- The call of the device that each step makes: one write, or a sync, or none.
use Rattle.std.specs.Prelude.{ℕ, ◌-◌, ◌==◌, not, ◌&&◌, List, [], ◌∷◌, if◌then◌else◌}
use Rattle.hpb_disk.specs.Asked.{Asked}
use Rattle.hpb_disk.specs.Asked.Asked.{syncs}
use Rattle.hpb_journal.specs.Places.{writes_body, opens_frame, closes_frame}
use Rattle.hpb_journal.specs.Shapes.{shape_of}
use Rattle.hpb_slots.specs.Slots.{other_of}
use Rattle.hpb_slots.specs.Writes.{writes_chunk, opens_slot, closes_slot}
use Rattle.hpb_engine.specs.declared.progress.Progress.{Progress}
use Rattle.hpb_engine.specs.declared.progress.Checkpoint.{Checkpoint}
use Rattle.hpb_engine.specs.declared.progress.Window.{Window}
use Rattle.hpb_engine.specs.Numbers.{end_of, may_be_open}

-- A turn of a batch in flight: the first writes its body, and the third the gate of its frame. The second and the
-- fourth sync.
abbrev pub turn_in_flight : Progress → Asked
turn_in_flight s =
    if s.commit.turns == 0 then writes_body (shape_of s.window.frames) s.commit.batch else
    (if s.commit.turns == 2 then opens_frame (shape_of s.window.frames) s.window.next else syncs)

-- A turn of a commit: with nothing in flight, it makes no call.
abbrev pub turn_asks : Progress → List Asked
turn_asks s = if s.commit.busy then turn_in_flight s ∷ [] else []

-- A step while a checkpoint is written. The third to the sixth step write one of four chunks each into the other slot,
-- and the eighth opens its gate. The second, the seventh and the ninth sync.
abbrev pub step_of_writing : Checkpoint → Asked
step_of_writing checkpoint =
    if checkpoint.steps == 1 then syncs else
    (if checkpoint.steps == 6 then syncs else
    (if checkpoint.steps == 7 then opens_slot (other_of checkpoint.newest) else
    (if checkpoint.steps == 8 then syncs else writes_chunk (other_of checkpoint.newest) (checkpoint.steps - 2) checkpoint.body.items)))

-- A checkpoint is begun: the gate of the other slot is closed, unless it is closed already.
abbrev pub begin_asks : Checkpoint → List Asked
begin_asks checkpoint = if checkpoint.other_open then closes_slot (other_of checkpoint.newest) ∷ [] else []

-- A frame is retired: its gate is closed, unless it is closed already.
abbrev pub retire_asks : Window → ℕ → List Asked
retire_asks window b = if may_be_open window b then closes_frame (shape_of window.frames) b ∷ [] else []

-- A step of a checkpoint: one is written, or begun; or a free frame is retired, with a sync behind the last one; or
-- nothing is left to do.
abbrev pub step_asks : Progress → List Asked
step_asks s =
    if not (s.checkpoint.steps == 0) then step_of_writing s.checkpoint ∷ [] else
    (if not s.retirement.going && not (s.window.covered == s.window.next) then begin_asks s.checkpoint else
    (if s.retirement.upto == end_of s.window then (if s.retirement.going then syncs ∷ [] else []) else
    retire_asks s.window s.retirement.upto))
