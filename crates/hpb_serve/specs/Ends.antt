-- How a session on a house ends.
-- Source: this project's own.
use Rattle.std.specs.Prelude.{◌≡◌, ℕ, true, false, List, Option, Some}
use Rattle.std.specs.declared.alloc.Global.{Global}
use Rattle.rtrb.specs.Ring.{SameProducer}
use Rattle.rtrb.specs.declared.AnyItems.{AnyItems}
use Rattle.rtrb.specs.declared.producer.Producer.{Producer}
use Rattle.hpb_rules.specs.declared.command.Command.{Command}
use Rattle.hpb_rules.specs.AuctionValue.{Shows}
use Rattle.hpb_board.specs.Publication.{Viewing}
use Rattle.hpb_rings.specs.declared.client.Client.{Client}
use Rattle.hpb_rings.specs.declared.slip.Slip.{Slip}
use Rattle.hpb_server.specs.DeskLaws.{GoesOn}
use Rattle.hpb_serve.specs.declared.end.SessionEnd.{SessionEnd}
use Rattle.hpb_serve.specs.declared.end.SessionEnd.TheVariants.{Finished, Left}
use Rattle.hpb_serve.specs.Sessions.{Follows, State, TellsAt, seen_by}
use Rattle.hpb_serve.specs.Stops.{IsInOrder, is_over}
use Rattle.hpb_serve.specs.declared.stop.Stop.{Stop}
use Rattle.hpb_serve.specs.declared.stop.Stop.TheVariants.{Halted}

-- The seat of the client that had the session.
abbrev pub seat_of : {M : Type 0} → SessionEnd M → ℕ
seat_of (Finished report) = report.seat
seat_of (Left client) = client.seat

-- Its viewer.
abbrev pub viewer_of : {M : Type 0} → SessionEnd M → Viewing
viewer_of (Finished report) = report.viewer
viewer_of (Left client) = client.viewer

-- Its end of its letter ring.
abbrev pub posts_of : {M : Type 0} → SessionEnd M → Producer Slip Global AnyItems
posts_of (Finished report) = report.letters
posts_of (Left client) = client.letters

-- A session ended with the client that it began with: of its seat, after all that it had entered, and into its ring.
abbrev pub IsEndOf : {M : Type 0} → Client M → SessionEnd M → Type 0
IsEndOf client end = (seat_of end ≡ client.seat) × Follows client.viewer (viewer_of end) × SameProducer client.letters (posts_of end)

-- How a session ends, by the reason that stopped its commands, if any did. The client has finished, and got a halt if
-- the session reported one. Or it is handed back, since the next answer to its seat isn't the one for which it waits.
abbrev pub EndsBy : {M : Type 0} → Option Stop → SessionEnd M → Type 0
EndsBy stop (Finished report) = (is_over stop ≡ false) × (stop ≡ Some Halted → report.is_halted ≡ true)
EndsBy stop (Left client) = (is_over stop ≡ true) × (IsInOrder client.seat client.viewer client.taken client.waiting.items → ⊥)

-- A session ended at a state: its client's seat and viewer are that state's.
abbrev pub EndsAt : {M : Type 0} → SessionEnd M → State → Type 0
EndsAt end state = (state.seat ≡ seat_of end) × (state.viewing ≡ viewer_of end) × EndsBy state.stop end

-- If the opened auction shows a history, the commands that a session reported at last go on from those that this viewer
-- showed at the start.
abbrev pub TellsOn : Viewing → State → Type 0
TellsOn began state = (opened : List Command) → Shows began.opened opened → GoesOn (seen_by opened began) (TellsAt state)
