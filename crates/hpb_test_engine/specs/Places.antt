-- The places of the bidders and the nodes in the definition of the tests.
use Rattle.std.specs.Prelude.{ℕ}
use Rattle.hpb_test_engine.specs.declared.letters.Bidder.{Bidder}
use Rattle.hpb_test_engine.specs.declared.letters.Bidder.TheVariants as bidders
use Rattle.hpb_test_engine.specs.declared.letters.Node.{Node}
use Rattle.hpb_test_engine.specs.declared.letters.Node.TheVariants as nodes

-- The place of a bidder among the bidders.
abbrev pub bidder_place : Bidder → ℕ
bidder_place bidders.X = 0
bidder_place bidders.Y = 1
bidder_place bidders.Z = 2
bidder_place bidders.W = 3

-- The place of a node among the nodes.
abbrev pub node_place : Node → ℕ
node_place nodes.All = 0
node_place nodes.East = 1
node_place nodes.A = 2
node_place nodes.B = 3
node_place nodes.C = 4
node_place nodes.D = 5

-- The seat of the auctioneer.
abbrev pub auctioneer_seat : ℕ
auctioneer_seat = 33
