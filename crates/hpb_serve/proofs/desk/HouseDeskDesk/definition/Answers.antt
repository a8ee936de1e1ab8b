use Rattle.std.proofs.Common.{◌∙◌, ap}
use Rattle.hpb_house.proofs.Histories.{rules_shown}
use Rattle.hpb_serve.proofs.desk.HouseDeskDesk.definition.Goals as goal

pub returns : goal.returns
returns g c = c.definition.ensures ∙ ap (λ value. value.rules) c.auction.ensures ∙ rules_shown c.args.self.now.client.viewer
