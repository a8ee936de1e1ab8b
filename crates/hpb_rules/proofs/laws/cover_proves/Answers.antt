use Rattle.hpb_rules.proofs.Cover
use Rattle.hpb_rules.proofs.laws.cover_proves.Goals as goal

pub returns : goal.returns
returns c = Cover.cover_proves
