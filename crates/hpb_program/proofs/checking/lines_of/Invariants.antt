use Rattle.std.proofs.Common.{◌≡◌, ◌++◌}
use Rattle.hpb_rules.specs.Text.{line_of}
use Rattle.hpb_rules.specs.ValueText.{shown_in}
use Rattle.hpb_program.specs.Jobs.{nodes_text}
use Rattle.hpb_program.proofs.checking.lines_of.Given as goal

-- the line of the auction, and those of the nodes so far
abbrev pub invariant-nodes : goal.invariant-nodes
invariant-nodes l = l.text ≡ line_of (shown_in l.auction) ++ nodes_text l.auction l.place
