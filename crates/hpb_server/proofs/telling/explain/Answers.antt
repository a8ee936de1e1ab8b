use Rattle.std.proofs.KnownBytes.{Keeps-refl}
use Rattle.hpb_server.proofs.telling.explain.Goals as goal

pub returns-in-Ok-clause-told : goal.returns-in-Ok-clause-told
returns-in-Ok-clause-told g c = λ at_terminal state at. rw c.in-Ok.is (Keeps-refl _)

pub returns-in-Refused-clause-told : goal.returns-in-Refused-clause-told
returns-in-Refused-clause-told g c = λ at_terminal state at. rw c.in-Refused.is (c.explain_refusal.ensures.told state at)
