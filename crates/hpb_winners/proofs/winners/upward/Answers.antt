use Rattle.std.proofs.Common.{◌∙◌}
use Rattle.hpb_bids.specs.View.{bid_of}
use Rattle.hpb_winners.proofs.All.{was_none, all_reached}
use Rattle.hpb_winners.proofs.winners.upward.Goals as goal

pub upward_along-requires : goal.upward_along-requires
upward_along-requires c = was_none c.args.tree.now.nodes (bid_of c.args.books.now) c.facts.ensures.most_nodes c.restart.ensures

pub returns-clause-formed : goal.returns-clause-formed
returns-clause-formed c = c.upward_along.ensures.formed ∙ all_reached c.args.tree.now.nodes c.facts.ensures.tree c.facts.ensures.most_nodes
