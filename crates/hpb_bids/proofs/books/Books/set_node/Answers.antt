use Rattle.std.proofs.Common.{arith}
use Rattle.std.proofs.lemmas.List.{map-set}
use Rattle.hpb_bids.proofs.books.Books.set_node.Goals as goal

pub returns : goal.returns
returns c = grind (arith, map-set)
