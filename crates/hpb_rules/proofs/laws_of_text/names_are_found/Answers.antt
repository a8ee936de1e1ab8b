use Rattle.hpb_rules.proofs.FoundNames
use Rattle.hpb_rules.proofs.laws_of_text.names_are_found.Goals as goal

pub returns : goal.returns
returns c = FoundNames.names_are_found
