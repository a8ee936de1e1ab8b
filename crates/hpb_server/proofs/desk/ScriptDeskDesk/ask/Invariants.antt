use Rattle.std.proofs.Common.{◌≡◌, length, take}
use Rattle.hpb_server.specs.AuctionDesk.{auction_ways}
use Rattle.hpb_server.specs.Desk.{AsksAll}
use Rattle.hpb_server.proofs.desk.ScriptDeskDesk.ask.Given as goal

-- each command so far was asked
abbrev pub invariant-loop-command : goal.invariant-loop-command
invariant-loop-command l =
    AsksAll auction_ways l.fn.self (take l.command-index l.commands) l.replies l.self-inside.auction × (length l.replies ≡ l.command-index)
