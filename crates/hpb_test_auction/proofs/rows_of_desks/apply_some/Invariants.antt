use Rattle.std.proofs.Common.{◌≡◌, ◌<◌, ◌≤◌, length}
use Rattle.hpb_test_auction.proofs.rows_of_desks.apply_some.Given as goal

-- the definition stays, and the first command has its reply
abbrev pub invariant-loop-command : goal.invariant-loop-command
invariant-loop-command l = (l.auction.rules ≡ l.fn.auction.rules) × (length l.replies ≤ l.command-index) × (0 < l.command-index → 0 < length l.replies)
