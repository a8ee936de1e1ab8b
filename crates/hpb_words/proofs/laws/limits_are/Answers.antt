use Rattle.std.proofs.Common.{refl}
use Rattle.hpb_words.proofs.laws.limits_are.Goals as goal

pub returns : goal.returns
returns c = record { statuses = refl; format = refl; check = refl; run = refl; serve = refl; batch = refl; least_port = refl; port = refl; sessions = refl; script_hint = refl; format_hint = refl; run_hint = refl }
