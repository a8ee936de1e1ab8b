-- How the clients of a house go on, and their reports.
-- Source: this project's own.
use Rattle.std.specs.Prelude.{◌≡◌, List}
use Rattle.rtrb.specs.Ring.{SameProducer}
use Rattle.hpb_house.specs.Boards.{SameBoard}
use Rattle.hpb_house.specs.Starts.{AreOneByOne}
use Rattle.hpb_house.specs.declared.keeper.Halt.{Halt}
use Rattle.hpb_rings.specs.declared.client.Client.{Client}
use Rattle.hpb_rings.specs.declared.report.Report.{Report}

-- **The owner of a report.** A client goes on as it began: on its board, with its seat, and with the ring that it began
-- with. So does its report, which keeps the client's end of that ring. Nothing else has that end, so no other report is
-- this client's.
--
-- A client that went on.
abbrev pub SameClient : Client Halt → Client Halt → Type 0
SameClient old new = SameBoard old.viewer new.viewer × (new.seat ≡ old.seat) × SameProducer old.letters new.letters

-- The report of a client.
abbrev pub IsReportOf : Client Halt → Report → Type 0
IsReportOf client report = SameBoard client.viewer report.viewer × (report.seat ≡ client.seat) × SameProducer client.letters report.letters

-- The reports of these clients, one of each.
abbrev pub AreReportsOf : List (Client Halt) → List Report → Type 0
AreReportsOf clients reports = AreOneByOne IsReportOf clients reports
