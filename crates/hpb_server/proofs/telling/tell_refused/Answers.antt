use Rattle.std.proofs.Common.{ℕ, List, Option, subst}
use Rattle.hpb_server.specs.Telling.{told_by, Says}
use Rattle.hpb_server.proofs.telling.tell_refused.Goals as goal

pub returns-in-Some : goal.returns-in-Some
returns-in-Some g c =
    subst (λ (reason : Option (List ℕ)). Says (g.E.Write.contents c.args.errors.now) (g.E.Write.contents c.tell_number.new.errors) (told_by c.args.refusal reason)) c.in-Some.ensures c.tell_number.ensures
