use Rattle.std.proofs.Common.{refl}
use Rattle.hpb_rules.specs.Rendering.{refusal_text}
use Rattle.hpb_server.proofs.serving.answer_question.Goals as goal

pub returns-in-Err-clause-answer : goal.returns-in-Err-clause-answer
returns-in-Err-clause-answer g c = λ state at. (state, (refusal_text c.in-Err.refusal, rw c.in-Err.is (refl, refl), c.refuse.ensures), at)
