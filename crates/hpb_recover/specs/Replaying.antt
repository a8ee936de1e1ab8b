-- How far the batches of a journal lead from a value.
use Rattle.std.specs.Prelude.{◌≡◌, ◌↔◌, ℕ, suc, ◌+◌, ◌<◌, ◌≤◌, Bool, false, IsTrue, List, Option, MatchBool, MatchOption, length, slice_index_or}
use Rattle.hpb_rules.specs.declared.command.Command.{Command}
use Rattle.hpb_rules.specs.Tree.{Rules}
use Rattle.hpb_rules.specs.AuctionValue.{AuctionValue}
use Rattle.hpb_rules.specs.Values.{value_after}
use Rattle.hpb_rules.specs.AcceptedRuns.{AllAccepted}
use Rattle.hpb_journal.specs.Layouts.{Layout}
use Rattle.hpb_journal.specs.Frames.{IsFrame, IsOpen, IsOwn, Kept}
use Rattle.hpb_rules.specs.Fronts.{joined}
use Rattle.hpb_recover.specs.declared.journal.Journal.{Journal}

-- A batch continues from a value if it is numbered on and each of its commands is newly accepted.
abbrev pub GoesOn : AuctionValue → ℕ → List Command → Type 0
GoesOn value first commands = (first ≡ suc value.count) × AllAccepted value commands

-- From an index up to the next one the frames spell batches, numbered on, and each command is newly accepted. They lead
-- from one value to another.
pub record Leads (layout : Layout) (covered : ℕ) (value : AuctionValue) (image : List ℕ) (next : ℕ) (reached : AuctionValue) : Type 0 where
  pub batches : List (List Command)
  pub count : next ≡ covered + length batches
  pub kept : Kept layout value.rules covered (suc value.count) batches image
  pub accepted : AllAccepted value (joined batches)
  pub after : reached ≡ value_after value (joined batches)

-- The frame spells no batch that continues.
abbrev pub HasStopped : Layout → Rules → ℕ → AuctionValue → List ℕ → Type 0
HasStopped layout rules next reached image =
    (commands : List Command) → IsFrame layout rules next (suc reached.count) commands image → AllAccepted reached commands → ⊥

-- The frames from an index on have these gates: true means open.
abbrev pub AreGates : Layout → ℕ → List Bool → List ℕ → Type 0
AreGates layout covered gates image = (k : ℕ) → k < length gates → IsTrue (slice_index_or gates k false) ↔ IsOpen layout (covered + k) image

-- No frame from one index up to another is open with its own index.
abbrev pub NoneIsOwn : Layout → ℕ → ℕ → List ℕ → Type 0
NoneIsOwn layout start end image = (b : ℕ) → start ≤ b → b < end → IsOwn layout b image → ⊥

-- Some frame from one index up to another is open with its own index.
abbrev pub OneIsOwn : Layout → ℕ → ℕ → List ℕ → Type 0
OneIsOwn layout start end image = (b : ℕ) × (start ≤ b) × (b < end) × IsOwn layout b image

-- The batches lead to a frame that is open with its own index, and spells no batch that continues.
pub record HasBrokenOff (layout : Layout) (covered : ℕ) (value : AuctionValue) (image : List ℕ) : Type 0 where
  pub next : ℕ
  pub reached : AuctionValue
  pub leads : Leads layout covered value image next reached
  pub below : next < covered + layout.count
  pub own : IsOwn layout next image
  pub stopped : HasStopped layout value.rules next reached image

-- The gates of the frames before an index are known. Those of some frames behind it may be known too; none of these is
-- open with its own index.
pub record IsReplayed (layout : Layout) (covered next : ℕ) (known : List Bool) (image : List ℕ) : Type 0 where
  pub least : next ≤ covered + length known
  pub most : length known ≤ layout.count
  pub gates : AreGates layout covered known image
  pub ended : NoneIsOwn layout next (covered + length known) image
  pub all : next ≡ covered + length known → length known ≡ layout.count

-- The frames from an index on are clean up to the first that is open, or to the end.
pub record IsClean (layout : Layout) (next end clean : ℕ) (image : List ℕ) : Type 0 where
  pub from : next ≤ clean
  pub to : clean ≤ end
  pub shut : (b : ℕ) → next ≤ b → b < clean → IsOpen layout b image → ⊥
  pub first : clean < end → IsOpen layout clean image

-- The result of taking in batch after batch: the index behind the last one, or none if the journal breaks off.
abbrev pub Replays : Layout → (covered : ℕ) → AuctionValue → (image : List ℕ) → (gates : List Bool) → (reached : AuctionValue) → Option ℕ → Type 0
Replays layout covered value image gates reached next =
    MatchOption next (HasBrokenOff layout covered value image) (λ next. Leads layout covered value image next reached × IsReplayed layout covered next gates image)

-- The result of reading the frames behind those whose gates are known: the gates of all, unless one of them is open with
-- its own index.
abbrev pub ReadsRest : Layout → (covered : ℕ) → (known gates : List Bool) → (image : List ℕ) → Bool → Type 0
ReadsRest layout covered known gates image sound = MatchBool sound
    (AreGates layout covered gates image × (length gates ≡ layout.count) × NoneIsOwn layout (covered + length known) (covered + layout.count) image)
    (OneIsOwn layout (covered + length known) (covered + layout.count) image)

-- Reading stops, though that frame or a later one is open with its own index.
pub record IsBroken (layout : Layout) (covered : ℕ) (value : AuctionValue) (image : List ℕ) : Type 0 where
  pub next : ℕ
  pub reached : AuctionValue
  pub leads : Leads layout covered value image next reached
  pub stopped : HasStopped layout value.rules next reached image
  pub later : OneIsOwn layout next (covered + layout.count) image

-- All batches were read: no frame behind them is open with its own index.
pub record IsWhole (layout : Layout) (covered : ℕ) (value : AuctionValue) (image : List ℕ) (next : ℕ) (reached : AuctionValue) : Type 0 where
  pub leads : Leads layout covered value image next reached
  pub ended : NoneIsOwn layout next (covered + layout.count) image

-- The frames behind the batches were read, too: which are clean, and the gates of all frames.
pub record AreKnown (layout : Layout) (covered : ℕ) (image : List ℕ) (next clean : ℕ) (known : List Bool) : Type 0 where
  pub clean_ones : IsClean layout next (covered + layout.count) clean image
  pub gates : AreGates layout covered known image
  pub all : length known ≡ layout.count

-- The result of reading a journal behind a checkpoint: its contents, or none if it is broken.
abbrev pub ReadsJournal : Layout → (covered : ℕ) → AuctionValue → (image : List ℕ) → (reached : AuctionValue) → Option Journal → Type 0
ReadsJournal layout covered value image reached found = MatchOption found (IsBroken layout covered value image)
    (λ journal. IsWhole layout covered value image journal.next reached × AreKnown layout covered image journal.next journal.clean_end journal.gates.items)
