use Rattle.hpb_rules.proofs.ScriptTexts
use Rattle.hpb_rules.proofs.laws_of_text.script_text_is_one.Goals as goal

pub returns : goal.returns
returns c = ScriptTexts.script_text_is_one
