-- Why a session gets no more answers, and by which refusal it says so.
-- Source: this project's own.
use Rattle.std.specs.Prelude.{◌≡◌, ℕ, Bool, true, false, List, Option, Some, None, slice_get}
use Rattle.hpb_rules.specs.declared.letter.Answer.{Answer}
use Rattle.hpb_rules.specs.declared.refusal.Refusal.{Refusal}
use Rattle.hpb_rules.specs.declared.refusal.Refusal.TheVariants as refusals
use Rattle.hpb_board.specs.Publication.{Viewing, answers_of}
use Rattle.hpb_rings.specs.Taking.{IsForOldest}
use Rattle.hpb_rings.specs.declared.waiting.Waiting.{Waiting}
use Rattle.hpb_serve.specs.declared.stop.Stop.{Stop}
use Rattle.hpb_serve.specs.declared.stop.Stop.TheVariants.{Halted, Order}

-- **Why it gets no more answers.** Its client is halted, and one more look found no answer: its commands get 93, and
-- the auction is still shown. Or an answer came that isn't the one for which it waits: that command gets 95, and the
-- session is over.
--
-- The refusal that a command gets.
abbrev pub refusal_of : Stop → Refusal
refusal_of Halted = refusals.Failed
refusal_of Order = refusals.Order

-- A session is over once an answer came that isn't the one for which it waits. If its client is halted, it goes on: it
-- refuses commands, and shows the auction.
abbrev pub is_over : Option Stop → Bool
is_over None = false
is_over (Some Halted) = false
is_over (Some Order) = true

-- If its client's viewer has a next answer to a seat, it is the one for which the client waits. It is for the oldest
-- letter that waits. It was given after at least as many accepted commands as the client knew when it posted that
-- letter.
abbrev pub IsInOrder : (seat : ℕ) → Viewing → (taken : ℕ) → List Waiting → Type 0
IsInOrder seat viewing taken waiting = (given : Answer) → slice_get (answers_of seat viewing) taken ≡ Some given → IsForOldest waiting given
