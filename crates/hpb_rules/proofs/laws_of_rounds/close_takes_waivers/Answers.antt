use Rattle.hpb_rules.proofs.Waivers
use Rattle.hpb_rules.proofs.laws_of_rounds.close_takes_waivers.Goals as goal

pub returns : goal.returns
returns c = Waivers.close_takes_waivers
