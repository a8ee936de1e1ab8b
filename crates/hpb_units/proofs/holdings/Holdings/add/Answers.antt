use Rattle.hpb_units.proofs.Held.{IsSet, holds_more, summed_more}
use Rattle.hpb_units.proofs.holdings.Holdings.add.Goals as goal
use Rattle.std.proofs.Common.{bit_or}
use Rattle.hpb_units.proofs.holdings.Holdings.add.Goals.{After-set}

set : (c : After-set) → IsSet c.args.tree.now.nodes c.args.self.now c.set.new.self c.args.bidder (bit_or c.licences.result c.licences-2.result) c.units_with-units.result
set c = record { licences = c.set.ensures.licences; units = c.set.ensures.units; other_licences = c.set.ensures.other_licences; other_units = c.set.ensures.other_units; licence_units = c.set.ensures.same_licence_units }

pub returns-clause-more : goal.returns-clause-more
returns-clause-more c = holds_more c.args.tree.now.nodes c.args.self.now c.set.new.self c.args.bidder c.licences.result c.licences-2.result c.args.node c.units_with-units.result c.licences-2.ensures c.licences.ensures.value (set c)

pub returns-clause-summed : goal.returns-clause-summed
returns-clause-summed c = summed_more c.args.tree.now.nodes c.args.self.now c.set.new.self c.args.bidder c.licences.result c.licences-2.result c.args.node c.units_with-units.result c.licences-2.ensures c.licences.ensures.value (set c) c.units_with-units.ensures.value c.requires.summed
