-- How the sessions of a house end.
-- Source: this project's own.
use Rattle.std.specs.Prelude.{◌≡◌, ℕ, List, Contains, map}
use Rattle.std.specs.List.{range_with_len}
use Rattle.hpb_rules.specs.AuctionValue.{AuctionValue}
use Rattle.hpb_disk.specs.Device.{Device}
use Rattle.hpb_house.specs.Closings.{Closed, Unsettled}
use Rattle.hpb_house.specs.declared.keeper.Halt.{Halt}
use Rattle.hpb_rings.specs.declared.client.Client.{Client}
use Rattle.hpb_rings.specs.declared.report.Report.{Report}
use Rattle.hpb_serve.specs.declared.fault.Differing.{Differing}
use Rattle.hpb_serve.specs.declared.fault.ServeFault.{ServeFault}
use Rattle.hpb_serve.specs.declared.fault.ServeFault.TheVariants as faults
use Rattle.hpb_serve.specs.declared.fault.ThreadsFault.{ThreadsFault}
use Rattle.hpb_serve.specs.declared.fault.ThreadsFault.TheVariants as threads
use Rattle.hpb_serve.specs.declared.serving.Served.{Served}
use Rattle.hpb_serve.specs.declared.end.SessionEnd.{SessionEnd}
use Rattle.hpb_serve.specs.declared.end.SessionEnd.TheVariants.{Left}
use Rattle.hpb_serve.specs.Ends.{IsEndOf}
use Rattle.hpb_serve.specs.Stops.{IsInOrder}

-- **How a session ends.** It ends with the client that it began with, which goes on posting into the same ring: nothing
-- else posts into that one. The client has finished, or the session left it, since the next answer to its seat isn't
-- the one for which it waits. A 95 hands such a client back. It has one of the seats, and its viewer began with the
-- opened auction.
--
-- The next answer to the seat of a client isn't the one for which it waits.
abbrev pub IsOutOfOrder : Client Halt → Type 0
IsOutOfOrder client = IsInOrder client.seat client.viewer client.taken client.waiting.items → ⊥

-- A session ended with the client that it began with. It left the client only if that is out of order.
pub record EndsWith (began : Client Halt) (end : SessionEnd Halt) : Type 0 where
  pub own : IsEndOf began end
  pub left : (client : Client Halt) → end ≡ Left client → IsOutOfOrder client

-- A session left its client, which is that of one of these seats and began with this auction. The next answer to its
-- seat isn't the one for which it waits.
pub record IsLeft (auction : AuctionValue) (seats : List ℕ) (client : Client Halt) : Type 0 where
  pub seat : Contains seats client.seat
  pub opened : client.viewer.opened ≡ auction
  pub order : IsOutOfOrder client

-- If a session of these seats left its client, that client is handed back.
abbrev pub LeavesOne : (auction : AuctionValue) (seats : List ℕ) → ThreadsFault → Type 0
LeavesOne auction seats threads.Memory = Unit {0}
LeavesOne auction seats (threads.Order client) = IsLeft auction seats client

-- **The result of sessions that have ended.**
--
-- The facts once this many sessions have ended. The device was opened so, with this auction.
pub record EndsAll {D : Type 0} (device : D → Device) (opened : Device) (before : AuctionValue) (sessions : ℕ) (served : Served D) : Type 0 where
  -- There is a report of each seat.
  pub seats : map (λ (report : Report). report.seat) served.reports.items ≡ range_with_len 0 sessions
  -- The house is closed: the reports show one history, which the device keeps.
  pub closed : Closed device opened before served.closing served.reports.items

-- **The result if serving ends ill.** A 96 hands back the reports, with the remains of the house. For a 90, a 92 and a
-- 94 there is no fact but the bytes written.
--
-- The facts once this many sessions have ended, and their answers differ from the committed commands, or a batch is in
-- flight though no call of the device has failed.
pub record EndsDiffering {D : Type 0} (device : D → Device) (opened : Device) (before : AuctionValue) (sessions : ℕ) (differing : Differing D) : Type 0 where
  -- There is a report of each seat.
  pub seats : map (λ (report : Report). report.seat) differing.reports.items ≡ range_with_len 0 sessions
  -- The close is refused: the device keeps the committed commands.
  pub unsettled : Unsettled device opened before differing.fault differing.reports.items

-- A session left its client, or all have ended and their answers differ. If memory, the writer or the start failed,
-- there is no more to say.
abbrev pub EndsIll : {D : Type 0} (device : D → Device) (opened : Device) (before : AuctionValue) (sessions : ℕ) → ServeFault D → Type 0
EndsIll device opened before sessions faults.Memory = Unit {0}
EndsIll device opened before sessions faults.Writer = Unit {0}
EndsIll device opened before sessions (faults.Start cause) = Unit {0}
EndsIll device opened before sessions (faults.Order client) = IsLeft before (range_with_len 0 sessions) client
EndsIll device opened before sessions (faults.Counts differing) = EndsDiffering device opened before sessions differing
