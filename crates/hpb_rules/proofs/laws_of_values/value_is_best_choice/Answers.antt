use Rattle.hpb_rules.proofs.BestChoices
use Rattle.hpb_rules.proofs.laws_of_values.value_is_best_choice.Goals as goal

pub returns : goal.returns
returns c = BestChoices.value_is_best_choice
