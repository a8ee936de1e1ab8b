-- Facts about every image that a crash may leave, and about the bytes that a read gives.
use Rattle.std.specs.Prelude.{◌≡◌, ◌⊎◌, ℕ, suc, ◌+◌, ◌-◌, ◌<◌, ◌≤◌, true, false, List, length}
use Rattle.hpb_rules.specs.declared.command.Command.{Command}
use Rattle.hpb_rules.specs.declared.saved.Saved.{Saved}
use Rattle.hpb_rules.specs.Tree.{Rules}
use Rattle.hpb_rules.specs.AuctionValue.{AuctionValue, Shows}
use Rattle.hpb_rules.specs.AcceptedRuns.{AllAccepted}
use Rattle.hpb_rules.specs.Values.{value_after}
use Rattle.hpb_rules.specs.Letters.{new_commands}
use Rattle.hpb_rules.specs.Saved.{restored}
use Rattle.hpb_codec.specs.declared.head.Head.{Head}
use Rattle.hpb_codec.specs.States.{SpellsState, SpellsStateIn}
use Rattle.hpb_codec.specs.declared.state_format.StateFormat.TheVariants.{Two}
use Rattle.hpb_recover.specs.Heads.{IsFormatted, IsLaidOut}
use Rattle.hpb_journal.specs.Frames.{HasIndex, IsClosed, IsOpen, Kept, MayBeKept, Says}
use Rattle.hpb_journal.specs.Shapes.{shape_of}
use Rattle.hpb_slots.specs.Slots.{HasChunks, Holds, IsClosed as IsClosedSlot, IsOpen as IsOpenSlot, body_of, other_of, place_of}
use Rattle.hpb_engine.specs.declared.progress.Checkpoint.{Checkpoint}
use Rattle.hpb_engine.specs.declared.progress.Commit.{Commit}
use Rattle.hpb_engine.specs.declared.progress.Progress.{Progress}
use Rattle.hpb_engine.specs.declared.progress.Retirement.{Retirement}
use Rattle.hpb_engine.specs.declared.progress.Window.{Window}
use Rattle.hpb_engine.specs.Cuts.{Cut, all, upto}
use Rattle.hpb_engine.specs.Numbers.{IsSafe, end_of, layout_of, may_be_open}

-- The batch in flight continues the acknowledged commands: each of its commands is newly accepted, and its answers say
-- so.
pub record IsFlight (rules : Rules) (next : ℕ) (committed : AuctionValue) (history : List Command) (commit : Commit) : Type 0 where
  pub kept : MayBeKept rules commit.batch
  pub index : commit.batch.index ≡ next
  pub first : commit.batch.first ≡ suc (length history)
  pub accepted : AllAccepted committed commit.batch.commands
  pub after : commit.working ≡ value_after committed commit.batch.commands
  pub new : commit.batch.commands ≡ new_commands commit.answers

-- The bytes spell, in the second format, a state that covers this many batches and shows a history.
pub record IsSnapshot (rules : Rules) (body : List ℕ) (covers : ℕ) (history : List Command) : Type 0 where
  pub saved : Saved
  pub spelled : SpellsStateIn Two rules body saved covers
  pub shows : Shows (restored rules saved) history

-- The numbers and values of a progress agree with the acknowledged commands as they are cut.
pub record Fits (s : Progress) (cut : Cut) : Type 0 where
  pub safe : IsSafe s
  pub rules : s.committed.rules ≡ cut.rules
  pub next : s.window.next ≡ s.window.covered + length cut.batches
  pub shows : Shows s.committed (all cut)
  -- up to the end of any batch there are at least as many commands as batches
  pub enough : (count : ℕ) → count ≤ length cut.batches → s.window.covered + count ≤ length (upto cut count)
  pub flight : s.commit.busy ≡ true → IsFlight cut.rules s.window.next s.committed (all cut) s.commit
  pub snapshot : 1 ≤ s.checkpoint.steps → IsSnapshot cut.rules s.checkpoint.body.items s.checkpoint.covers (upto cut (s.checkpoint.covers - s.window.covered))

-- The head of the device.
abbrev pub head_of : Window → Rules → Head
head_of window rules = record { definition = rules; journal = shape_of window.frames }

-- The device is formatted, with this head.
pub record InHead (head : Head) (image : List ℕ) : Type 0 where
  pub formatted : IsFormatted image
  pub laid : IsLaidOut head image

-- The newest slot shows the first commands. Until the checkpoint's gate is written, any state in the other slot is
-- older.
pub record InSlots (rules : Rules) (covered : ℕ) (checkpoint : Checkpoint) (before : List Command) (image : List ℕ) : Type 0 where
  pub saved : Saved
  pub holds : Holds rules checkpoint.newest covered saved image
  pub shows : Shows (restored rules saved) before
  pub behind : checkpoint.other_open ≡ true → (i : ℕ) (older : Saved) → SpellsState rules (body_of (other_of checkpoint.newest) image) older i
      → (i < covered) ⊎ ((i ≡ covered) × (place_of checkpoint.newest ≤ place_of (other_of checkpoint.newest)))
  pub shut : checkpoint.steps < 8 → checkpoint.other_open ≡ false → IsClosedSlot (other_of checkpoint.newest) image
  pub whole : 7 ≤ checkpoint.steps → body_of (other_of checkpoint.newest) image ≡ checkpoint.body.items

-- The batches after it are whole. Clean frames are closed, except the frame of a batch whose gate is written. No other
-- frame that may be open holds the index of the batch that it is to serve.
pub record InJournal (rules : Rules) (window : Window) (commit : Commit) (cut : Cut) (image : List ℕ) : Type 0 where
  pub kept : Kept (layout_of window) rules window.covered (suc (length cut.before)) cut.batches image
  pub clean : (b : ℕ) → window.next ≤ b → b < window.clean_end → (b ≡ window.next → commit.turns < 3) → IsClosed (layout_of window) b image
  pub stale : (b : ℕ) → window.clean_end ≤ b → b < end_of window → may_be_open window b ≡ true → HasIndex (layout_of window) b image → ⊥
  pub shut : (b : ℕ) → window.clean_end ≤ b → b < end_of window → may_be_open window b ≡ false → IsClosed (layout_of window) b image
  pub staged : 2 ≤ commit.turns → Says (layout_of window) rules commit.batch image

-- The facts about each image that a crash may leave: its head, its slots and its journal.
pub record Facts (s : Progress) (cut : Cut) (image : List ℕ) : Type 0 where
  pub head : InHead (head_of s.window cut.rules) image
  pub slots : InSlots cut.rules s.window.covered s.checkpoint cut.before image
  pub journal : InJournal cut.rules s.window s.commit cut image

-- The parts of a batch in flight that are written.
pub record ReadsCommit (rules : Rules) (window : Window) (commit : Commit) (seen : List ℕ) : Type 0 where
  pub written : 1 ≤ commit.turns → Says (layout_of window) rules commit.batch seen
  pub opened : 3 ≤ commit.turns → IsOpen (layout_of window) window.next seen

-- The parts of a checkpoint that are written. Each step after the second writes one more chunk.
pub record ReadsCheckpoint (checkpoint : Checkpoint) (seen : List ℕ) : Type 0 where
  pub closed : 1 ≤ checkpoint.steps → checkpoint.steps < 8 → IsClosedSlot (other_of checkpoint.newest) seen
  pub copied : 2 ≤ checkpoint.steps → checkpoint.steps ≤ 6 → HasChunks (other_of checkpoint.newest) (checkpoint.steps - 2) checkpoint.body.items seen
  pub shown : 8 ≤ checkpoint.steps → IsOpenSlot (other_of checkpoint.newest) seen

-- The gates of retired frames that are closed.
pub record ReadsRetirement (window : Window) (retirement : Retirement) (seen : List ℕ) : Type 0 where
  pub retired : (b : ℕ) → window.clean_end ≤ b → b < retirement.upto → IsClosed (layout_of window) b seen

-- The facts about the bytes that a read gives, beyond those about each image: the parts that were written are there.
pub record Reads (s : Progress) (cut : Cut) (seen : List ℕ) : Type 0 where
  pub commit : ReadsCommit cut.rules s.window s.commit seen
  pub checkpoint : ReadsCheckpoint s.checkpoint seen
  pub retirement : ReadsRetirement s.window s.retirement seen
