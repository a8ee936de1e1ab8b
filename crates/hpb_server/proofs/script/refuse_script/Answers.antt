use Rattle.hpb_server.proofs.Refusals.{refusal_told, told_by}
use Rattle.hpb_server.proofs.script.refuse_script.Goals as goal

pub returns-in_default : goal.returns-in_default
returns-in_default g c = refusal_told _ _ c.args.cause c.refusal.result c.write_refusal.result (told_by c.args.cause c.refusal.result c.in_default.not-Memory c.refusal.ensures) c.write_refusal.ensures
