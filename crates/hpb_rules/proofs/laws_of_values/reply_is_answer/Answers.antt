use Rattle.hpb_rules.proofs.Readings
use Rattle.hpb_rules.proofs.laws_of_values.reply_is_answer.Goals as goal

pub returns : goal.returns
returns c = Readings.reply_is_answer
