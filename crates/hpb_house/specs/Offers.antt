-- The result of an offer of letters to a keeper.
-- Source: this project's own.
use Rattle.std.specs.Prelude.{◌≡◌, List, [], ◌∷◌, ◌++◌, Result, Ok, Err}
use Rattle.hpb_rules.specs.declared.letter.Letter.{Letter}
use Rattle.hpb_rules.specs.Machine.{Machine, take_letters}
use Rattle.hpb_rules.specs.Tree.{Rules}
use Rattle.hpb_rules.specs.Judging.{judged_in}
use Rattle.hpb_engine.specs.declared.begun.Weight.TheVariants as weights
use Rattle.hpb_engine.specs.declared.step.Fault.{Fault}
use Rattle.hpb_engine.specs.declared.step.Step.{Step}
use Rattle.hpb_engine.specs.declared.step.Step.TheVariants as steps
use Rattle.hpb_engine.specs.Offers.{CanTake, Weighs}
use Rattle.hpb_board.specs.Publication.{HasRoom}
use Rattle.hpb_house.specs.declared.offered.Offered.{Offered}
use Rattle.hpb_house.specs.declared.offered.Offered.TheVariants as outcomes
use Rattle.hpb_house.specs.declared.offered.Reason.{Reason}
use Rattle.hpb_house.specs.declared.offered.Reason.TheVariants as reasons
use Rattle.hpb_house.specs.Keepers.{Keeping}

-- **What becomes of letters.** If nothing bars them from the engine (`CanTake`), the board must have room for their
-- answers. Letters that aren't taken are handed back unchanged, with the first reason that applies. The last reason is
-- want of memory (90), for which there is no test.
--
-- The board has room for the answers to the letters.
abbrev pub CanShow : {D : Type 0} → Keeping D → List Letter → Type 0
CanShow k letters = HasRoom k.board.seats k.board.list letters

-- Why letters are handed back.
abbrev pub IsWhy : {D : Type 0} → Keeping D → List Letter → Reason → Type 0
IsWhy k letters reasons.Busy = Weighs k.failed k.progress letters weights.Busy
IsWhy k letters reasons.Full = Weighs k.failed k.progress letters weights.Full
IsWhy k letters reasons.Failed = Weighs k.failed k.progress letters weights.Failed
IsWhy k letters reasons.Spent = CanTake k.failed k.progress letters × (CanShow k letters → ⊥)
IsWhy k letters reasons.Memory = CanTake k.failed k.progress letters × CanShow k letters

-- The result for letters: those that aren't taken are handed back unchanged.
abbrev pub Becomes : {D : Type 0} → Keeping D → List Letter → Offered → Type 0
Becomes k letters outcomes.InFlight = Weighs k.failed k.progress letters weights.New × CanShow k letters
Becomes k letters (outcomes.Answered answers) =
    Weighs k.failed k.progress letters weights.Old × CanShow k letters × (answers ≡ judged_in k.progress.committed letters)
Becomes k letters (outcomes.Back back why) = (back ≡ letters) × IsWhy k letters why

-- **What an offer does.** If no letter is new, all are answered and published at once; otherwise they are prepared, as
-- one batch. To the machine without a disk an offer is one event, or none if the letters are handed back.
--
-- The batches that are published after an offer: letters that are answered at once are published at once.
abbrev pub list_after : Offered → List Letter → List (List Letter) → List (List Letter)
list_after outcomes.InFlight letters list = list
list_after (outcomes.Answered answers) letters list = list ++ letters ∷ []
list_after (outcomes.Back back why) letters list = list

-- The batches that are prepared after an offer.
abbrev pub pending_after : Offered → List Letter → List (List Letter) → List (List Letter)
pending_after outcomes.InFlight letters pending = letters ∷ []
pending_after (outcomes.Answered answers) letters pending = []
pending_after (outcomes.Back back why) letters pending = pending

-- The effect of an offer on the machine without a disk: it takes the letters, or nothing if they are handed back.
abbrev pub machine_after : Offered → Rules → Machine → List Letter → Machine
machine_after outcomes.InFlight rules machine letters = (take_letters rules machine letters).machine
machine_after (outcomes.Answered answers) rules machine letters = (take_letters rules machine letters).machine
machine_after (outcomes.Back back why) rules machine letters = machine

-- **What a step of a commit publishes.** The last one publishes the prepared batch; no other publishes anything.
--
-- The batches that are published after a step of a commit: the last one publishes the prepared batch.
abbrev pub list_stepped : Result Step Fault → List (List Letter) → List (List Letter) → List (List Letter)
list_stepped (Ok steps.Idle) list pending = list
list_stepped (Ok steps.Went) list pending = list
list_stepped (Ok (steps.Done answers)) list pending = list ++ pending
list_stepped (Err fault) list pending = list

-- The batches that are prepared after a step of a commit.
abbrev pub pending_stepped : Result Step Fault → List (List Letter) → List (List Letter)
pending_stepped (Ok steps.Idle) pending = pending
pending_stepped (Ok steps.Went) pending = pending
pending_stepped (Ok (steps.Done answers)) pending = []
pending_stepped (Err fault) pending = pending
